-- A test that says whether a claim holds.
use Rattle.std.specs.Prelude.{Bool, true, false}

pub data Says (P : Type 0) : Bool → Type 0 where
  holds : P → Says P true
  fails : (P → ⊥) → Says P false
