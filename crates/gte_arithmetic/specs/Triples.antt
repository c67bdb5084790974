-- The triples by what their numbers are in code: 16, 32 or 64 bits. Here each is a triple of integers.
use Rattle.std.specs.Prelude.{ℤ}
use Rattle.gte_arithmetic.specs.declared.values.Triple.{Triple}

-- V0..V2, or IR1..3
abbrev pub Vector : Type 0
Vector = Triple ℤ

-- TR, BK, FC, or MAC1..3
abbrev pub Long : Type 0
Long = Triple ℤ

-- three exact values
abbrev pub Wide : Type 0
Wide = Triple ℤ
