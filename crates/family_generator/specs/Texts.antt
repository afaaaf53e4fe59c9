-- The texts of generated families.
use Rattle.std.specs.Prelude.{ℕ, zero, suc, ◌+◌, ◌*◌, ◌%◌, List, [], ◌++◌, codes}
use Rattle.std.specs.Fmt.{decimal}

-- ---- the blocks of statements

-- an input that only the members with this switch take
abbrev pub switched_input : ℕ → List ℕ
switched_input switch = codes "#ifdef F" ++ decimal switch ++ codes "\na = input();\n#endif\n"

-- a count up to a limit where `N` is at least a bound, and 0 elsewhere
abbrev pub bounded_count : ℕ → ℕ → List ℕ
bounded_count bound limit = codes "#if N >= " ++ decimal bound ++ codes "\nwhile (b < " ++ decimal limit ++ codes ") b++;\n#else\nb = 0;\n#endif\n"

-- a choice by the input, and an assertion
abbrev pub checked_choice : List ℕ
checked_choice = codes "if (a > 0) b = b + 1; else b = 0;\nassert(b >= 0);\n"

-- by the remainder of the block's number by 3
abbrev pub block_by : ℕ → ℕ → ℕ → List ℕ
block_by zero number k = switched_input ((5 * k + number) % 8)
block_by (suc zero) number k = bounded_count (k % 9 + 1) (k % 50 + 10)
block_by (suc (suc _)) number k = checked_choice

-- block k of the family of this number of blocks
abbrev pub block : ℕ → ℕ → List ℕ
block number k = block_by (k % 3) number k

-- so many blocks from block k on
abbrev pub blocks : ℕ → ℕ → ℕ → List ℕ
blocks number k zero = []
blocks number k (suc left) = block number k ++ blocks number (k + 1) left

-- ---- the whole text

abbrev pub header : List ℕ
header = codes "int a;\nint b;\nint main(void) {\n"

-- the header, the blocks from 0 on, and the closing brace
abbrev pub generated_text : ℕ → List ℕ
generated_text number = header ++ blocks number 0 number ++ codes "}\n"
