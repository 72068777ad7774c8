-- Ids, each held as two halves of 64 bits, the high one first.
use Rattle.std.specs.Prelude.{ℕ, List, ◌++◌, Bool, false, ◌&&◌, eqb, None, Option, Some}
use Rattle.keys.specs.BigEndian.{be_bytes}
use Rattle.ids.specs.declared.ViewId.{ViewId}
use Rattle.ids.specs.declared.SstId.{SstId}
use Rattle.ids.specs.declared.Uuid.{Uuid}

-- "ULIDs and UUIDs compare as 16 bytes": the bytes of an id, by its halves. Two ids order as their bytes do, by `order_of`.
abbrev pub id_bytes : ℕ → ℕ → List ℕ
id_bytes hi lo = be_bytes 8 hi ++ be_bytes 8 lo

-- the same, by both halves as one
abbrev pub bytes_of : ℕ × ℕ → List ℕ
bytes_of h = id_bytes h.0 h.1

abbrev pub sst_bytes : SstId → List ℕ
sst_bytes a = id_bytes a.0 a.1

abbrev pub uuid_bytes : Uuid → List ℕ
uuid_bytes a = id_bytes a.0 a.1

-- An id of each type as its two halves, and the id of two halves: what the trait `Id` says of each type.
abbrev pub view_halves : ViewId → ℕ × ℕ
view_halves x = (x.0, x.1)

abbrev pub view_of : ℕ → ℕ → ViewId
view_of high low = (high, low)

abbrev pub sst_halves : SstId → ℕ × ℕ
sst_halves x = (x.0, x.1)

abbrev pub sst_of : ℕ → ℕ → SstId
sst_of high low = (high, low)

abbrev pub uuid_halves : Uuid → ℕ × ℕ
uuid_halves x = (x.0, x.1)

abbrev pub uuid_of : ℕ → ℕ → Uuid
uuid_of high low = (high, low)

-- whether the id of a, b is that of c, d: both halves are the same
abbrev pub same_of : ℕ → ℕ → ℕ → ℕ → Bool
same_of a b c d = eqb a c && eqb b d

abbrev pub same_halves : ℕ × ℕ → ℕ × ℕ → Bool
same_halves h k = same_of h.0 h.1 k.0 k.1

-- "A view id and an SST id are both ULIDs and must not be interchangeable": one test for each type.
abbrev pub same_view_of : ViewId → ViewId → Bool
same_view_of a b = same_of a.0 a.1 b.0 b.1

abbrev pub same_sst_of : SstId → SstId → Bool
same_sst_of a b = same_of a.0 a.1 b.0 b.1

-- "whose view id or SST id equals the compactor's respective watermark": an absent watermark equals none. `same` is the test
-- of the ids' type.
abbrev pub marks_of : {A : Type 0} → (A → A → Bool) → Option A → A → Bool
marks_of same None v = false
marks_of same (Some w) v = same w v

abbrev pub marks_view_of : Option ViewId → ViewId → Bool
marks_view_of = marks_of same_view_of

abbrev pub marks_sst_of : Option SstId → SstId → Bool
marks_sst_of = marks_of same_sst_of
