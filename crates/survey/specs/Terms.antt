-- By what a survey is read: binary frames and sentences; DF3, DF7, string records and sentences. Assumes nothing.
use Rattle.std.specs.Prelude.{ℕ, List}
use Rattle.framing.specs.declared.verdict.Verdict.{Verdict}
use Rattle.framing.specs.Verdicts.{or_else}
use Rattle.framing.specs.Plan.{judged}
use Rattle.framing.specs.Binary.{binary}
use Rattle.framing.specs.Sentence.{sentence}
use Rattle.format.specs.Meaning.{Meaning}
use Rattle.format.specs.Meaning.{or_else as or_meaning}
use Rattle.format.specs.Text.{text_meaning}
use Rattle.format.specs.Sentence.{sentence_meaning}
use Rattle.velocity.specs.Df3.{df3_meaning}
use Rattle.velocity.specs.Df7.{df7_meaning}
use Rattle.stream.specs.View.{Terms, terms}

unfoldable pub survey_verdict : List ℕ → Verdict
survey_verdict s = or_else (judged binary s) (judged sentence s)

unfoldable pub survey_meaning : ℕ → List ℕ → Meaning
survey_meaning kind s = or_meaning (or_meaning (df3_meaning kind s) (df7_meaning kind s)) (or_meaning (text_meaning kind s) (sentence_meaning kind s))

-- with a register over a table of this length
abbrev pub survey_terms : ℕ → Terms
survey_terms room = terms survey_verdict 8192 survey_meaning room
