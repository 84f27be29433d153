-- What a listing of parts leaves: all of them, or none where the table is too short. Assumes nothing.
use Rattle.std.proofs.Common.{◌≡◌, ◌+◌, ◌<◌, ◌≤◌, true, false, length, Ok, Err, nat_le, sym, refl, ap, ◌∙◌, append-nil}
use Rattle.std.proofs.lemmas.Bool.{le-leb, lt-leb}
use Rattle.common.specs.declared.list.List.{List as ListedIn}
use Rattle.common.specs.Lists.{items, room}
use Rattle.common.specs.Added.{Added}
use Rattle.format.specs.declared.format.Part.{Part}
use Rattle.format.specs.declared.format.RecordFault.{RecordFault}
use Rattle.format.specs.declared.format.PartsFault.TheVariants.{Judged, TableShort}
use Rattle.format.specs.Meaning.{Meaning, Leaves, listing_of}

module _ (m : Meaning) (a b : ListedIn Part) where
  pub leaves_added : m.judgement ≡ Ok tt → length (items a) + length m.parts ≤ room a → Added a m.parts b → Leaves m a b (Ok tt)
  leaves_added good fits h = record {
    says = sym (ap (listing_of m.judgement) (le-leb _ _ fits) ∙ ap (λ j. listing_of j true) good);
    holds = h.holds;
    table = record { same_room = h.same_room; rest = h.rest; lends = h.lends };
  }

  pub leaves-short : m.judgement ≡ Ok tt → room a < length (items a) + length m.parts → Leaves m a a (Err TableShort)
  leaves-short good short = record {
    says = sym (ap (listing_of m.judgement) (lt-leb _ _ short) ∙ ap (λ j. listing_of j false) good);
    holds = sym (append-nil (items a));
    table = record { same_room = refl; rest = refl; lends = refl };
  }

  -- where the record is not accepted
  pub leaves-judged : (f : RecordFault) → m.judgement ≡ Err f → Leaves m a a (Err (Judged f))
  leaves-judged f bad = record {
    says = sym (ap (λ j. listing_of j (nat_le (length (items a) + length m.parts) (room a))) bad);
    holds = sym (append-nil (items a));
    table = record { same_room = refl; rest = refl; lends = refl };
  }
