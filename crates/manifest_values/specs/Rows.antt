-- Rows over the input: what `Read` reads, each key as its place in the input.
use Rattle.std.specs.Prelude.{ℕ, zero, suc, List, Err, None, Ok, Option, Result, Some}
use Rattle.keys.specs.declared.Bound.{Bound}
use Rattle.keys.specs.declared.Bound.TheVariants.{Unbounded, Included, Excluded}
use Rattle.records.specs.declared.Place.{Place}
use Rattle.records.specs.declared.ViewRow.{ViewRow}
use Rattle.msgpack.specs.Read.{uint_at, bin_at, id_at, group_at, on_uint, on_bin, on_id, on_group}
use Rattle.manifest_values.specs.Read.{Got, is, wrong, on, ended, option_of}
use Rattle.manifest_values.specs.declared.Numbers.{Numbers}
use Rattle.manifest_values.specs.declared.Epochs.{Epochs}
use Rattle.keys.specs.declared.Range.{Range}
use Rattle.ids.specs.declared.Uuid.{Uuid}
use Rattle.ids.specs.declared.ViewId.{ViewId}
use Rattle.ids.specs.declared.SstId.{SstId}

-- a bin's place
abbrev pub place_at : List ℕ → ℕ → Got Place
place_at s at = on_bin wrong (bin_at s at) λ from len p. is (record { at = from; len = len }) p

abbrev pub bound_by : ℕ → Place → Bound
bound_by zero k = Included k.at k.len
bound_by (suc n) k = Excluded k.at k.len

unfoldable pub bound_at : List ℕ → ℕ → Got Bound
bound_at s at =
    option_of Unbounded
    (λ at. on_group wrong (group_at s at 2) λ n p. on_uint wrong (uint_at s p 1) λ kind q. on (place_at s q) λ k r. ended s n 2 (bound_by kind k) r)
    s at

unfoldable pub visible_at : List ℕ → ℕ → Got (Option Range)
visible_at s at =
    option_of None
    (λ at. on_group wrong (group_at s at 2) λ n p. on (bound_at s p) λ a q. on (bound_at s q) λ b r. ended s n 2 (Some (record { start = a; end = b })) r)
    s at

-- a bin's place, or nil
abbrev pub optional_place_at : List ℕ → ℕ → Got (Option Place)
optional_place_at s at = option_of None (λ p. on (place_at s p) λ k q. is (Some k) q) s at

abbrev pub last_at : List ℕ → ℕ → Got (Option Place)
last_at s at = optional_place_at s at

unfoldable pub view_at : List ℕ → ℕ → Got ViewRow
view_at s at =
    on_group wrong (group_at s at 5) λ n p₀. on_id wrong (id_at s p₀) λ vh vl p₁. on_id wrong (id_at s p₁) λ sh sl p₂. on (place_at s p₂) λ first p₃. on (last_at s p₃) λ last p₄. on (visible_at s p₄) λ seen p₅.
    ended s n 5 (record { id = (vh, vl); sst = (sh, sl); first = first; last = last; visible = seen }) p₅

abbrev pub name_at : List ℕ → ℕ → Got (Option Place)
name_at s at = optional_place_at s at

-- the code's answer: what was read and the place after it, or the place of what is wrong
abbrev pub got : {A : Type 0} → Result (A × ℕ) ℕ → Got A
got (Ok (x, p)) = is x p
got (Err q) = wrong q

-- of each kind of value
abbrev pub got_place : Result (Place × ℕ) ℕ → Got Place
got_place r = got r

abbrev pub got_bound : Result (Bound × ℕ) ℕ → Got Bound
got_bound r = got r

abbrev pub got_visible : Result (Option Range × ℕ) ℕ → Got (Option Range)
got_visible r = got r

abbrev pub got_last : Result (Option Place × ℕ) ℕ → Got (Option Place)
got_last r = got r

abbrev pub got_view : Result (ViewRow × ℕ) ℕ → Got ViewRow
got_view r = got r

abbrev pub got_final : Result (Option Uuid × ℕ) ℕ → Got (Option Uuid)
got_final r = got r

abbrev pub got_view_mark : Result (Option ViewId × ℕ) ℕ → Got (Option ViewId)
got_view_mark r = got r

abbrev pub got_sst_mark : Result (Option SstId × ℕ) ℕ → Got (Option SstId)
got_sst_mark r = got r

abbrev pub got_name : Result (Option Place × ℕ) ℕ → Got (Option Place)
got_name r = got r

abbrev pub got_numbers : Result (Numbers × ℕ) ℕ → Got Numbers
got_numbers r = got r

abbrev pub got_epochs : Result (Epochs × ℕ) ℕ → Got Epochs
got_epochs r = got r
