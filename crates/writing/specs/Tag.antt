-- The string record of a tag. Assumes nothing.
use Rattle.std.specs.Prelude.{ℕ, List, [], ◌∷◌, ◌++◌}

abbrev pub tag_series : ℕ
tag_series = 0xA0

-- its identifier, its text, and a final zero byte
abbrev pub tag_data : List ℕ → List ℕ
tag_data text = 0x13 ∷ (text ++ (0 ∷ []))
