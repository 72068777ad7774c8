-- A choice by a test: where it is true the first, else the second.
use Rattle.std.specs.Prelude.{Bool, true, false}

abbrev pub pick : {A : Type 0} → Bool → A → A → A
pick true x y = x
pick false x y = y
