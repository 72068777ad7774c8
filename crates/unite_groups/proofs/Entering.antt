-- A row entered among the groups: what they stand for then, and where their ids end. Assumes nothing.
use Rattle.std.specs.Prelude.{Option}
use Prim.Native.Nat.{ℕ, ◌+◌, ◌-◌, ◌*◌, ◌≤◌}
use mathlib.Core.Path.{◌≡◌, refl, sym, ap, ◌∙◌}
use mathlib.Core.Bool.{true, false}
use mathlib.Core.List.{List, ◌∷◌, map}
use native.Mathlib.Omega.{arith}
use native.Mathlib.Nat.{zero-add}
use lib.ListN.{length, take, drop}
use borrow.Author.Tests.{le-leb}
use Rattle.tables.specs.Layout.{write, up_to, joined}
use Rattle.tables.proofs.Holds.{Holds}
use Rattle.tables.proofs.Joined.{up_to_length}
use Rattle.records.specs.Decode.{bytes_in, ids_in}
use Rattle.measure.specs.Tests.{all_of}
use Rattle.measure.proofs.Lists.{all_append}
use Rattle.segments.proofs.Places.{and_both}
use Rattle.unite_groups.specs.Groups.{key_order}
use Rattle.unite_groups.specs.Rows.{members_in, end_by, with_better, member_entered}
use Rattle.unite_groups.specs.Steps.{spot_of, entered, group_at, group_words, member_of, row_order, better_row}
use Rattle.unite_groups.specs.declared.GroupRow.{GroupRow}
use Rattle.unite_groups.specs.declared.Grouped.{Grouped}
use Rattle.unite_groups.specs.declared.Spot.{Spot}
use Rattle.unite_groups.proofs.Spots.{New, Old, entered_new, entered_old}
use Rattle.unite_groups.proofs.Placing.{rows_held, count_new, place_new, table_new, count_old, place_old, one_holds, table_old}
use Rattle.unite_groups.proofs.GroupRows.{group_wide, group_held, group_at_back, rows_written, ends, ends_is, ends_later, members_are, map_entered, member_entered_lem}
use Rattle.ids.specs.declared.Uuid.{Uuid}

module _ (t work pool : List ℕ) (g : Grouped) (row : GroupRow) (s : Option Uuid) (at : Spot) (e : at ≡ spot_of (row_order work pool row) (up_to (group_at t) g.groups))
    (room : (g.groups + 1) * 6 ≤ length t) (ended : end_by g.ids t g.groups ≡ true) where
  abbrev olds : List GroupRow
  olds = up_to (group_at t) g.groups

  abbrev change : GroupRow → GroupRow
  change = better_row s row.checkpoint

  abbrev news : List GroupRow
  news = entered (row_order work pool row) row change olds

  counted : length olds ≡ g.groups
  counted = up_to_length (group_at t) g.groups

  stand : Holds t (0 * 6) (joined group_words olds)
  stand = simp zero-add at (rows_held group_words 6 group_wide t (group_at t) (group_held t) 0 g.groups (omega arith))

  -- what the new rows stand for
  members : (d : List ℕ) (n : ℕ) → length news ≡ n → d ≡ write t (0 * 6) (joined group_words news)
      → members_in d work pool n ≡ member_entered s (bytes_in pool row.path) (ids_in work row.ids) row.checkpoint (members_in t work pool g.groups)
  members d n c w =
      members_are d work pool n
      ∙ ap (map (member_of work pool)) (ap (up_to (group_at d)) (sym c) ∙ rows_written t d news w)
      ∙ map_entered (member_of work pool) (row_order work pool row) (λ m. key_order (bytes_in pool row.path) (ids_in work row.ids) m.path m.ids) row change (λ m. with_better s m row.checkpoint) (λ y. refl) (λ y. refl) olds
      ∙ sym (rw (members_are t work pool g.groups) (member_entered_lem s (bytes_in pool row.path) (ids_in work row.ids) row.checkpoint (map (member_of work pool) olds)))

  ending : (d : List ℕ) (n past : ℕ) → length news ≡ n → d ≡ write t (0 * 6) (joined group_words news) → all_of (ends past) news ≡ true → end_by past d n ≡ true
  ending d n past c w h = ends_is past d n ∙ ap (all_of (ends past)) (ap (up_to (group_at d)) (sym c) ∙ rows_written t d news w) ∙ h

  -- it joins a group
  module _ (h : at.held ≡ true) where
    old : Old row change olds news at.at
    old = rw e (entered_old row change (row_order work pool row) olds (ap (λ (z : Spot). z.held) (sym e) ∙ h))

    pub joins_place : (at.at + 1) * 6 ≤ length t
    joins_place = omega (arith, place_old group_words 6 group_wide change row olds news 0 g.groups at.at t counted stand old)

    module _ (d : List ℕ) (w : d ≡ write t (at.at * 6) (group_words (change (group_at t at.at)))) where
      laid : d ≡ write t (0 * 6) (joined group_words news)
      laid =
          let one : group_at t at.at ≡ old.one = group_at_back t at.at old.one (rw (zero-add at.at) at (one_holds group_words 6 group_wide change row olds news 0 g.groups at.at t counted stand old)) in
          table_old group_words 6 group_wide change row olds news 0 g.groups at.at t counted stand old (omega arith) d (rw (zero-add at.at, ← one) w)

      pub joins_members : members_in d work pool g.groups ≡ member_entered s (bytes_in pool row.path) (ids_in work row.ids) row.checkpoint (members_in t work pool g.groups)
      joins_members = members d g.groups (sym (count_old group_words 6 group_wide change row olds news 0 g.groups at.at t counted stand old)) laid

      pub joins_ends : end_by g.ids d g.groups ≡ true
      joins_ends =
          ending d g.groups g.ids (sym (count_old group_words 6 group_wide change row olds news 0 g.groups at.at t counted stand old)) laid
          (ap (all_of (ends g.ids)) old.is ∙ all_append (ends g.ids) old.pre (change old.one ∷ old.post) ∙ sym (all_append (ends g.ids) old.pre (old.one ∷ old.post)) ∙ ap (all_of (ends g.ids)) (sym old.was) ∙ sym (ends_is g.ids t g.groups) ∙ ended)

  -- it is a group of its own
  module _ (h : at.held ≡ false) where
    new : New row change olds news at.at
    new = rw e (entered_new row change (row_order work pool row) olds (ap (λ (z : Spot). z.held) (sym e) ∙ h))

    pub alone_place : at.at ≤ g.groups
    alone_place = place_new group_words 6 group_wide change row olds news 0 g.groups at.at t counted stand new (rw (zero-add g.groups) room)

    many : length news ≡ g.groups + 1
    many = sym (count_new group_words 6 group_wide change row olds news 0 g.groups at.at t counted stand new (rw (zero-add g.groups) room))

    module _ (d₁ d : List ℕ) (u : d₁ ≡ write t (at.at * 6 + 6) (take (g.groups * 6 - at.at * 6) (drop (at.at * 6) t))) (w : d ≡ write d₁ (at.at * 6) (group_words row)) where
      laid_alone : d ≡ write t (0 * 6) (joined group_words news)
      laid_alone =
          table_new group_words 6 group_wide change row olds news 0 g.groups at.at t counted stand new (rw (zero-add g.groups) room) d₁ d
          (rw (zero-add at.at, zero-add g.groups) u) (rw (zero-add at.at) w)

      pub alone_members : members_in d work pool (g.groups + 1) ≡ member_entered s (bytes_in pool row.path) (ids_in work row.ids) row.checkpoint (members_in t work pool g.groups)
      alone_members = members d (g.groups + 1) many laid_alone

      pub alone_ends : row.ids.first ≡ g.ids → end_by (g.ids + row.ids.count) d (g.groups + 1) ≡ true
      alone_ends f =
          let past = g.ids + row.ids.count in
          let before : all_of (ends past) olds ≡ true = ends_later g.ids past (omega arith) olds (sym (ends_is g.ids t g.groups) ∙ ended) in
          let both = and_both (all_of (ends past) new.pre) (all_of (ends past) new.post) (sym (all_append (ends past) new.pre new.post) ∙ ap (all_of (ends past)) (sym new.was) ∙ before) in
          let own : ends past row ≡ true = rw f (le-leb (g.ids + row.ids.count) past (omega arith)) in
          ending d (g.groups + 1) past many laid_alone
          (ap (all_of (ends past)) new.is ∙ all_append (ends past) new.pre (row ∷ new.post) ∙ rw (both.0, own, both.1))
