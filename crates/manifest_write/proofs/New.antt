-- "The new manifest is, whole: 9c c3 94 c0 c0 90 90 90 c0 01 00 d3 80 00 00 00 00 00 00 00 00 00 90 00 00": document 01's 25 bytes. Assumes
-- nothing.
use mathlib.Core.Path.{◌≡◌, refl}
use mathlib.Core.List.{[], ◌∷◌}
use Rattle.keys.specs.BigEndian.{be_bytes}
use Rattle.records.specs.New.{new_manifest}
use Rattle.msgpack_put.specs.Write.{uint_bytes, minus_bytes, array_bytes, concat}
use Rattle.manifest_write.specs.Bytes.{tree_bytes, segments_bytes, manifest_bytes}

pub new_bytes : manifest_bytes new_manifest
    ≡ 0x9c ∷ 0xc3 ∷ 0x94 ∷ 0xc0 ∷ 0xc0 ∷ 0x90 ∷ 0x90 ∷ 0x90 ∷ 0xc0 ∷ 0x01 ∷ 0x00 ∷ 0xd3 ∷ 0x80 ∷ 0x00 ∷ 0x00 ∷ 0x00 ∷ 0x00 ∷ 0x00 ∷ 0x00 ∷ 0x00 ∷ 0x00 ∷ 0x00 ∷ 0x90 ∷ 0x00 ∷ 0x00 ∷ []
unfolding manifest_bytes tree_bytes segments_bytes uint_bytes minus_bytes array_bytes concat be_bytes
new_bytes = refl
