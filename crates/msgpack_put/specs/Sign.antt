-- A signed number as MessagePack has it: not negative, or minus one minus a number.
use Rattle.std.specs.Prelude.{ℤ, pos, negsuc}
use Rattle.msgpack_put.specs.declared.Head.{Head}
use Rattle.msgpack_put.specs.declared.Head.TheVariants.{Uint, Minus}

abbrev pub sign_of : ℤ → Head
sign_of (pos n) = Uint n
sign_of (negsuc m) = Minus m
