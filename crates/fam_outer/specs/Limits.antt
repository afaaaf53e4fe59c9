-- Limits, for definitions of the crates above.
use Rattle.std.specs.Prelude.{ℕ}

-- the most bytes of a C file
abbrev pub file_bytes : ℕ
file_bytes = 1048576

-- the most bytes of a model
abbrev pub model_bytes : ℕ
model_bytes = 65536

-- the most bytes of a certificate
abbrev pub certificate_bytes : ℕ
certificate_bytes = 16777216

-- the greatest size of a feature's value, and of an end of its range
abbrev pub most_value : ℕ
most_value = 1048576
