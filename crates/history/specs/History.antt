-- Demand 3: a history of insertions, and the segments worked out afresh.
use Rattle.std.specs.Prelude.{ℕ, ◌≡◌, Bool, true, not, ◌&&◌, List, [], ◌∷◌, leb, length}
use Rattle.keys.specs.Pick.{pick}
use Rattle.keys.specs.Prefix.{Bytes}
use Rattle.records.specs.Model.{Segment, Manifest}
use Rattle.records.specs.declared.Fill.{Fill}
use Rattle.records.specs.declared.Limits.{Limits}
use Rattle.measure.specs.Within.{within}
use Rattle.lawful.specs.Law.{l2_of, l3_of, l4_of, l5_of}
use Rattle.segments.specs.Prefixes.{prefixes, prefix_of}
use Rattle.segments.specs.Place.{apart_from}
use Rattle.segments.specs.Insert.{new_segment, with_segments, refuses4, inserted_of, after_entry}

-- a lawful manifest of the model: L1's numbers, L2 to L5; prefixes are bytes
pub record Lawful (lim : Limits) (m : Manifest) : Type 0 where
  pub bytes : (i : ℕ) → Bytes (prefix_of (prefixes m.segments) i)
  pub first : within lim m ≡ true
  pub second : l2_of m ≡ true
  pub third : l3_of m ≡ true
  pub fourth : l4_of m ≡ true
  pub fifth : l5_of m ≡ true

-- a call is data: insert of a prefix with a room
pub record Call : Type 0 where
  pub prefix : List ℕ
  pub room : Fill

-- the manifest after all calls
abbrev pub replay : Limits → Manifest → List Call → Manifest
replay lim m [] = m
replay lim m (c ∷ cs) = replay lim (after_entry m (inserted_of lim c.room m c.prefix)) cs

-- "a prefix new to the list enters exactly if it is at most 32 bytes, none held begins it or is begun by it, and there is room":
-- no neighbour is looked at, and no place is sought
unfoldable pub enters : Limits → Manifest → List Segment → Call → Bool
enters lim m ss c =
    leb (length c.prefix) lim.prefix
    && (apart_from (prefixes ss) c.prefix && not (refuses4 lim c.room (with_segments m (new_segment c.prefix ∷ ss))))

-- the segments "worked out afresh from the start list and all calls so far", in the order of their entry
abbrev pub afresh : Limits → Manifest → List Segment → List Call → List Segment
afresh lim m ss [] = ss
afresh lim m ss (c ∷ cs) = afresh lim m (pick (enters lim m ss c) (new_segment c.prefix ∷ ss) ss) cs

-- new segments, with empty trees, beside older ones
abbrev pub beside : List (List ℕ) → List Segment → List Segment
beside [] ss = ss
beside (p ∷ ps) ss = new_segment p ∷ beside ps ss

-- the same segments in any order: each of the first list's put somewhere
pub data Among {A : Type 0} (x : A) : List A → List A → Type 0 where
  here : {xs : List A} → Among x xs (x ∷ xs)
  later : {y : A} {xs ys : List A} → Among x xs ys → Among x (y ∷ xs) (y ∷ ys)

pub data Same {A : Type 0} : List A → List A → Type 0 where
  none : Same [] []
  more : {x : A} {xs ys zs : List A} → Among x ys zs → Same xs ys → Same (x ∷ xs) zs

-- the prefix of every call is of bytes
pub data BytesAll : List Call → Type 0 where
  nothing : BytesAll []
  called : {c : Call} {cs : List Call} → Bytes c.prefix → BytesAll cs → BytesAll (c ∷ cs)

-- What holds after all calls: the segments, trees and all, are those worked out afresh; all else of the manifest is as it was; the
-- result is lawful, which leaves the segments one order.
pub record Kept (lim : Limits) (m : Manifest) (fresh : List Segment) (after : Manifest) : Type 0 where
  pub segments : Same fresh after.segments
  pub others : after ≡ with_segments m after.segments
  pub lawful : Lawful lim after
