-- The checkpoint of each group, and the borrows that the groups become.
use Rattle.std.specs.Prelude.{ℕ, suc, Bool, false, ◌||◌, List, [], ◌∷◌, length, None, Option, Some}
use Rattle.keys.specs.Pick.{pick}
use Rattle.keys.specs.Key.{order_of, is_less}
use Rattle.ids.specs.declared.Uuid.{Uuid}
use Rattle.ids.specs.Id.{uuid_bytes, same_of}
use Rattle.segments.specs.Lookup.{same_of as same_bytes}
use Rattle.records.specs.Model.{Borrow}
use Rattle.records.specs.Fill.{plus, borrows, ids, key_fill}
use Rattle.records.specs.declared.Fill.{Fill}
use Rattle.borrows.specs.Clone.{fresh_at}
use Rattle.unite_groups.specs.Groups.{Member, Group}

-- the path and the checkpoint of a source
pub record Supply : Type 0 where
  pub path : List ℕ
  pub checkpoint : Uuid

abbrev pub or_before : Option Uuid → Option Uuid → Option Uuid
or_before None before = before
or_before (Some u) before = Some u

-- "the one supplied with that path (that path's last source as sorted)", of sources as sorted
unfoldable pub supplied_with : List Supply → List ℕ → Option Uuid
supplied_with [] p = None
supplied_with (s ∷ ss) p = or_before (supplied_with ss p) (pick (same_bytes s.path p) (Some s.checkpoint) None)

abbrev pub same_uuid : Uuid → Uuid → Bool
same_uuid a b = same_of a.0 a.1 b.0 b.1

abbrev pub some_is : Uuid → List Uuid → Bool
some_is u [] = false
some_is u (c ∷ cs) = same_uuid u c || some_is u cs

abbrev pub lesser : Uuid → Uuid → Uuid
lesser a b = pick (is_less (order_of (uuid_bytes b) (uuid_bytes a))) b a

unfoldable pub smallest_from : Uuid → List Uuid → Uuid
smallest_from c [] = c
smallest_from c (d ∷ ds) = smallest_from (lesser c d) ds

abbrev pub smallest : List Uuid → Uuid
smallest [] = (0, 0)
smallest (c ∷ cs) = smallest_from c cs

-- "A group's checkpoint is the one supplied with that path .. if a member has it, else the smallest."
abbrev pub chosen : Option Uuid → List Uuid → Uuid
chosen None cs = smallest cs
chosen (Some u) cs = pick (some_is u cs) u (smallest cs)

-- each group with its checkpoint
unfoldable pub chosen_all : List Supply → List Group → List Member
chosen_all ss [] = []
chosen_all ss (g ∷ gs) = record { path = g.path; checkpoint = chosen (supplied_with ss g.path) g.checkpoints; ids = g.ids } ∷ chosen_all ss gs

-- "Final checkpoints are lent fresh UUIDs in result order": from the n-th on
unfoldable pub lent_from : List Uuid → ℕ → List Member → List Borrow
lent_from fresh n [] = []
lent_from fresh n (m ∷ ms) =
    record { path = m.path; source = m.checkpoint; final = Some (fresh_at fresh n); ids = m.ids } ∷ lent_from fresh (suc n) ms

-- what a group fills as a borrow
unfoldable pub member_fill : Member → Fill
member_fill m = plus (borrows 1) (plus (key_fill m.path) (ids (length m.ids)))
