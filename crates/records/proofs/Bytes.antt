-- The byte strings of a record read back from the pool that holds them. Assumes nothing.
use Prim.Native.Nat.{ℕ, ◌+◌}
use mathlib.Core.Path.{◌≡◌, refl, ap}
use mathlib.Core.List.{List, [], ◌∷◌, ◌++◌}
use lib.ListN.{length}
use Rattle.keys.specs.Range.{Edge, unbounded, included, excluded}
use Rattle.keys.specs.Pool.{edge_of}
use Rattle.tables.proofs.Joined.{joined_append}
use Rattle.tables.proofs.Holds.{Holds, holds_first, holds_rest, part_back}
use Rattle.records.specs.Model.{LastKey, unknown, known, Seen, all, only, View, Extractor, none, named}
use Rattle.records.specs.Decode.{bytes_in, last_in, seen_in, view_in, name_in}
use Rattle.records.specs.Fill.{last_keys, edge_keys, seen_keys, name_keys}
use Rattle.records.specs.Layout.{run, placed, last_row, bound_row, visible_row, view_row, view_bytes, name_row}

module _ (pool : List ℕ) where
  -- one byte string
  pub key_back : (from : ℕ) (k : List ℕ) → Holds pool from (run (k ∷ [])) → bytes_in pool (placed from k) ≡ k
  key_back from k h = part_back pool from k (holds_first pool from k [] h)

  pub last_in_back : (from : ℕ) (l : LastKey) → Holds pool from (run (last_keys l)) → last_in pool (last_row from l) ≡ l
  last_in_back from unknown h = refl
  last_in_back from (known k) h = ap known (key_back from k h)

  pub edge_back : (from : ℕ) (e : Edge) → Holds pool from (run (edge_keys e)) → edge_of pool (bound_row from e) ≡ e
  edge_back from unbounded h = refl
  edge_back from (included k) h = ap included (key_back from k h)
  edge_back from (excluded k) h = ap excluded (key_back from k h)

  -- byte strings of which some stand before the others
  pub run_first : (from : ℕ) (ks ls : List (List ℕ)) → Holds pool from (run (ks ++ ls)) → Holds pool from (run ks)
  run_first from ks ls h = holds_first pool from (run ks) (run ls) (rw (joined_append (λ k. k) ks ls) at h)

  pub run_rest : (from : ℕ) (ks ls : List (List ℕ)) → Holds pool from (run (ks ++ ls)) → Holds pool (from + length (run ks)) (run ls)
  run_rest from ks ls h = holds_rest pool from (run ks) (run ls) (from + length (run ks)) refl (rw (joined_append (λ k. k) ks ls) at h)

  pub seen_back : (from : ℕ) (s : Seen) → Holds pool from (run (seen_keys s)) → seen_in pool (visible_row from s) ≡ s
  seen_back from all h = refl
  seen_back from (only r) h =
      let ks = edge_keys r.start in
      let ls = edge_keys r.end in
      rw
      (edge_back from r.start (run_first from ks ls h), edge_back (from + length (run ks)) r.end (run_rest from ks ls h))

  pub view_in_back : (from : ℕ) (v : View) → Holds pool from (view_bytes v) → view_in pool (view_row from v) ≡ v
  unfolding view_in view_row view_bytes
  view_in_back from v h =
      let k = v.first in
      let n = from + length k in
      let ks = last_keys v.last in
      let ls = seen_keys v.visible in
      let g : Holds pool n (run (ks ++ ls)) = holds_rest pool from k (run (ks ++ ls)) n refl h in
      rw
      (part_back pool from k (holds_first pool from k (run (ks ++ ls)) h), last_in_back n v.last (run_first n ks ls g), seen_back (n + length (run ks)) v.visible (run_rest n ks ls g))

  pub name_back : (from : ℕ) (e : Extractor) → Holds pool from (run (name_keys e)) → name_in pool (name_row from e) ≡ e
  name_back from none h = refl
  name_back from (named k) h = ap named (key_back from k h)
