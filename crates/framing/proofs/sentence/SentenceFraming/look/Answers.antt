use Rattle.std.proofs.Common.{sym, subst}
use Rattle.framing.specs.Sentence.{ExactlySentences}
use Rattle.framing.proofs.SentenceFrames.{exactly_sentences}
use Rattle.framing.proofs.sentence.SentenceFraming.look.Goals as goal

pub returns-clause-sentences : goal.returns-clause-sentences
returns-clause-sentences c = let s = c.args.bytes.now in subst (ExactlySentences s) (sym c.judge.ensures) (exactly_sentences s)
