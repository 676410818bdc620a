-- 01, The float steps: "Each operation rounds once (IEEE 754 binary64, to nearest even)."
use Rattle.std.specs.Prelude.{Float}
use Rattle.std.specs.Float.{binary64}
use Rattle.std.specs.Float.Ieee.{add, sub, mul}

infixl 60 ◌⊕◌ ◌⊖◌
infixl 70 ◌⊗◌
abbrev pub ◌⊕◌ : Float → Float → Float
a ⊕ b = add binary64 a b

abbrev pub ◌⊖◌ : Float → Float → Float
a ⊖ b = sub binary64 a b

abbrev pub ◌⊗◌ : Float → Float → Float
a ⊗ b = mul binary64 a b
