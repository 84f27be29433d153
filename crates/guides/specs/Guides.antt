-- Which format records of a kind and a series have, and which guide describes it. Assumes nothing.
use Rattle.std.specs.Prelude.{ℕ, cond, ◌||◌, List, [], codes, eqb}
use Rattle.guides.specs.declared.RecordFormat.{RecordFormat}
use Rattle.guides.specs.declared.RecordFormat.TheVariants.{Df3, Df7, Text, Sentence, Unknown}

-- the format of a binary record, by its series
abbrev pub binary_format : ℕ → RecordFormat
binary_format series =
    cond (eqb series 0x15 || (eqb series 0x16 || eqb series 0x18)) Df3
    (cond (eqb series 0x26) Df7
    (cond (eqb series 0xA0) Text Unknown))

-- the format, by the kind and then the series
abbrev pub format_of : ℕ → ℕ → RecordFormat
format_of kind series = cond (eqb kind 2) Sentence (cond (eqb kind 1) (binary_format series) Unknown)

-- the name that is printed of a format
abbrev pub name_of : RecordFormat → List ℕ
name_of Df3 = codes "DF3"
name_of Df7 = codes "DF7"
name_of Text = codes "string"
name_of Sentence = codes "sentence"
name_of Unknown = codes "unknown"

abbrev pub title_of : RecordFormat → List ℕ
title_of Df3 = codes "DVL Integrator's Guide"
title_of Df7 = codes "Integrator's Guide, Generation 2 2D Horizontal Profiler"
title_of Text = codes "Integrator's Guide, Generation 2 2D Horizontal Profiler"
title_of Sentence = codes "DVL Operations and Integration"
title_of Unknown = []

abbrev pub edition_of : RecordFormat → List ℕ
edition_of Df3 = codes "2023.1"
edition_of Df7 = codes "2026.2"
edition_of Text = codes "2026.2"
edition_of Sentence = codes "2025.1"
edition_of Unknown = []
