-- What stands at the head of a list of bytes, of which the first has the place `at`.
use Rattle.std.specs.Prelude.{ℕ, ◌+◌, ◌-◌, ◌/◌, true, false, List, [], ◌∷◌, ltb, leb, eqb, length, take}
use Rattle.keys.specs.Pick.{pick}
use Rattle.keys.specs.BigEndian.{be}
use Rattle.msgpack.specs.Form.{form_of}
use Rattle.msgpack.specs.declared.Kind.{Kind}
use Rattle.msgpack.specs.declared.Kind.TheVariants as kind
use Rattle.msgpack.specs.declared.Form.{Form}
use Rattle.msgpack.specs.declared.Head.{Head}
use Rattle.msgpack.specs.declared.Head.TheVariants.{Cut, Never, Nil, Flag, Uint, Minus, Bin, Other, Array, Map}

-- "N is a length or count": the form's own number, or that of the w bytes after the first
abbrev pub arg_of : ℕ → ℕ → List ℕ → ℕ
arg_of w n t = pick (eqb w 0) n (be (take w t))

-- by the kind: n is the form's own number, x the number given, `next` the place after it, `left` how many bytes are left there.
-- A number not negative is `Uint x`, a negative one `Minus m` for -1 - m, whatever its form ("two's complement": x is negative when
-- above half of n, the largest of its width, and is then -1 - (n - x)). A bin has its first place, its length and the place after it.
-- "Contents of str and ext, NaN and map keys are not examined": these are `Other`, with the place after them. More bytes could mend
-- what is `Cut`; what is `Never` no bytes mend
unfoldable pub kind_head : Kind → ℕ → ℕ → ℕ → ℕ → Head
kind_head kind.Never n x next left = Never
kind_head kind.Nil n x next left = Nil next
kind_head kind.False n x next left = Flag false next
kind_head kind.True n x next left = Flag true next
kind_head kind.Uint n x next left = Uint x next
kind_head kind.Minus n x next left = Minus x next
kind_head kind.Sint n x next left = pick (leb x (n / 2)) (Uint x next) (Minus (n - x) next)
kind_head kind.Bin n x next left = pick (leb x left) (Bin next x (next + x)) Cut
kind_head kind.Str n x next left = pick (leb x left) (Other (next + x)) Cut
kind_head kind.Float n x next left = pick (leb x left) (Other (next + x)) Cut
kind_head kind.Ext n x next left = pick (ltb x left) (Other (next + 1 + x)) Cut
kind_head kind.Array n x next left = Array x next
kind_head kind.Map n x next left = Map x next

-- by the form of the first byte, with the bytes after it
unfoldable pub head_by : ℕ → Form → List ℕ → Head
head_by at f t =
    pick (leb f.1 (length t))
    (kind_head f.0 f.2 (arg_of f.1 f.2 t) (at + 1 + f.1) (length t - f.1))
    Cut

unfoldable pub head_of : ℕ → List ℕ → Head
head_of at [] = Cut
head_of at (b ∷ t) = head_by at (form_of b) t
