-- MessagePack's first bytes: the table of the public specification, row by row.
use Rattle.std.specs.Prelude.{ℕ, ◌-◌, List, [], ◌∷◌, ltb, get_or}
use Rattle.keys.specs.Pick.{pick}
use Rattle.msgpack.specs.declared.Kind.{Kind}
use Rattle.msgpack.specs.declared.Kind.TheVariants.{Never, Nil, False, True, Uint, Minus, Sint, Bin, Str, Float, Ext, Array, Map}
use Rattle.msgpack.specs.declared.Form.{Form}

-- a kind; the width of the number after the first byte, 0 where the first byte gives the number by itself; that number,
-- or of a signed number the largest that its width holds, or 0
abbrev pub row : Kind → ℕ → ℕ → Form
row k w n = record { 0 = k; 1 = w; 2 = n }

-- c0 to df
abbrev pub codes : List Form
codes =
    -- "c0 nil"; "c1 never used"; "c2, c3 false, true"
    row Nil 0 0 ∷ row Never 0 0 ∷ row False 0 0 ∷ row True 0 0
    -- "c4, c5, c6 bin 8, 16, 32: N in 1, 2, 4 bytes; N bytes"
    ∷ row Bin 1 0 ∷ row Bin 2 0 ∷ row Bin 4 0
    -- "c7, c8, c9 ext 8, 16, 32: N in 1, 2, 4 bytes; 1 byte type; N bytes"
    ∷ row Ext 1 0 ∷ row Ext 2 0 ∷ row Ext 4 0
    -- "ca, cb float 32, 64: 4, 8 bytes"
    ∷ row Float 0 4 ∷ row Float 0 8
    -- "cc, cd, ce, cf uint 8, 16, 32, 64: 1, 2, 4, 8 bytes"
    ∷ row Uint 1 0 ∷ row Uint 2 0 ∷ row Uint 4 0 ∷ row Uint 8 0
    -- "d0, d1, d2, d3 int 8, 16, 32, 64: 1, 2, 4, 8 bytes, two's complement"
    ∷ row Sint 1 0xff ∷ row Sint 2 0xffff ∷ row Sint 4 0xffff_ffff ∷ row Sint 8 0xffff_ffff_ffff_ffff
    -- "d4, d5, d6, d7, d8 fixext 1, 2, 4, 8, 16: 1 byte type; 1, 2, 4, 8, 16 bytes"
    ∷ row Ext 0 1 ∷ row Ext 0 2 ∷ row Ext 0 4 ∷ row Ext 0 8 ∷ row Ext 0 16
    -- "d9, da, db str 8, 16, 32: N in 1, 2, 4 bytes; N bytes"
    ∷ row Str 1 0 ∷ row Str 2 0 ∷ row Str 4 0
    -- "dc, dd array 16, 32: N in 2, 4 bytes; N values"
    ∷ row Array 2 0 ∷ row Array 4 0
    -- "de, df map 16, 32: N in 2, 4 bytes; N times a key and a value"
    ∷ row Map 2 0 ∷ row Map 4 0
    ∷ []

-- "00-7f positive fixint: the value is the byte"; "80-8f fixmap: N = low 4 bits"; "90-9f fixarray: N = low 4 bits";
-- "a0-bf fixstr: N = low 5 bits"; c0 to df by the table above; "e0-ff negative fixint: the value is the byte less 256", that is,
-- minus one minus (ff less the byte)
unfoldable pub form_of : ℕ → Form
form_of b =
    pick (ltb b 0x80) (row Uint 0 b)
    (pick (ltb b 0x90) (row Map 0 (b - 0x80))
    (pick (ltb b 0xa0) (row Array 0 (b - 0x90))
    (pick (ltb b 0xc0) (row Str 0 (b - 0xa0))
    (pick (ltb b 0xe0) (get_or codes (b - 0xc0) (row Never 0 0))
    (row Minus 0 (0xff - b))))))
