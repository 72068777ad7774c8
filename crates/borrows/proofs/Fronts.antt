-- What is laid behind nothing stands at the front of the tables. Assumes nothing.
use mathlib.Core.Path.{◌≡◌, ap, ◌∙◌}
use mathlib.Core.List.{List}
use Prim.Native.Nat.{ℕ}
use Rattle.tables.specs.Layout.{write, over}
use Rattle.tables.proofs.Writes.{write_front}
use Rattle.records.specs.Model.{Manifest}
use Rattle.records.specs.Decode.{Lent}
use Rattle.records.specs.Fill.{empty}
use Rattle.records.specs.Layout.{layout, layout_at}
use Rattle.records.proofs.Cursor.{layout_front}

pub front_out : (f : Lent → List ℕ) (m : Manifest) (n : ℕ) → n ≡ 0 → (d d' : List ℕ) → d' ≡ write d n (f (layout_at empty m)) → d' ≡ over d (f (layout m))
front_out f m n h d d' w =
    w ∙ ap (λ (k : ℕ). write d k (f (layout_at empty m))) h ∙ write_front d (f (layout_at empty m)) ∙ ap (λ (l : Lent). over d (f l)) (layout_front m)
