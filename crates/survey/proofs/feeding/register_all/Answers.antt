use Rattle.survey.specs.Terms.{survey_verdict, survey_meaning}
use Rattle.survey.proofs.feeding.register_all.Goals as goal

pub returns : goal.returns
unfolding survey_verdict survey_meaning
returns c = record { law = c.feed_all.ensures.law; room = c.feed_all.ensures.room; lends = c.feed_all.ensures.lends }
