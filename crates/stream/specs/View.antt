-- What an intake holds. Assumes nothing.
use Rattle.std.specs.Prelude.{◌≡◌, ℕ, ◌+◌, ◌-◌, ◌<◌, ◌≤◌, min, Bool, true, false, cond, not, List, [], ◌∷◌, ◌++◌, length, take, drop, is_ok, Ok, Err, Result}
use Rattle.register.specs.declared.entry.Entry.{Entry}
use Rattle.register.specs.declared.entry.Totals.{Totals}
use Rattle.framing.specs.declared.verdict.Verdict.{Verdict}
use Rattle.framing.specs.Verdicts.{Laws as FramingLaws}
use Rattle.reading.specs.Reading.{Found, Reading, Comes, series_of}
use Rattle.format.specs.Meaning.{Meaning, verdict_number, fault_place, Laws as FormatLaws}
use Rattle.stream.specs.declared.answers.Fault.{Fault}
use Rattle.stream.specs.declared.answers.Fault.TheVariants.{SpaceShort, RegisterFull}
use Rattle.stream.specs.declared.answers.Taken.{Taken}
use Rattle.stream.specs.declared.answers.Taken.TheVariants.{Record as Brought}
use Rattle.reading.specs.declared.steps.Next.{Next}
use Rattle.reading.specs.declared.steps.Next.TheVariants.{Record, End}
use Rattle.stream.specs.declared.intake.Intake.{Intake}
use Rattle.stream.specs.Answers.{ask_deliver, ask_close, nothing, most_entries}

-- the waiting bytes, how many were accepted and registered, how many records were brought, and whether the stream is closed
pub record View : Type 0 where
  pub waiting : List ℕ
  pub accepted : ℕ
  pub registered : ℕ
  pub records : ℕ
  pub closed : Bool

abbrev pub view : Intake → View
view i = record {
  waiting = take (i.end - i.start) (drop i.start i.bytes);
  accepted = i.accepted;
  registered = i.registered;
  records = i.records;
  closed = i.closed;
}

abbrev pub new_view : View
new_view = record { waiting = []; accepted = 0; registered = 0; records = 0; closed = false }

-- what serves throughout: the framing's verdict and reach, what the formats mean, and how many entries the register has room for
pub record Terms : Type 0 where
  pub verdict : List ℕ → Verdict
  pub reach : ℕ
  pub meaning : ℕ → List ℕ → Meaning
  pub room : ℕ

pub record Lawful (t : Terms) : Type 0 where
  pub framing : FramingLaws t.verdict t.reach
  pub formats : FormatLaws t.meaning

-- the terms of a framing and formats, and a register over a table of this length
abbrev pub terms : (List ℕ → Verdict) → ℕ → (ℕ → List ℕ → Meaning) → ℕ → Terms
terms v r m n = record { verdict = v; reach = r; meaning = m; room = min most_entries n }

-- the entry of a record, by what the formats mean
abbrev pub entry_by : (ℕ → List ℕ → Meaning) → Found → Entry
entry_by meaning f = record {
  place = f.place;
  len = length f.bytes;
  kind = f.kind;
  series = series_of f.kind f.bytes;
  verdict = verdict_number (meaning f.kind f.bytes).judgement;
  fault = fault_place (meaning f.kind f.bytes).judgement;
}

abbrev pub entry_of : Terms → Found → Entry
entry_of t f = entry_by t.meaning f

-- some bytes more, behind those that wait
abbrev pub with_bytes : View → List ℕ → View
with_bytes v bytes = record {
  waiting = v.waiting ++ bytes;
  accepted = v.accepted + length bytes;
  registered = v.registered;
  records = v.records;
  closed = v.closed;
}

-- what a delivery does: all bytes wait behind the others, or nothing changes
pub record Delivers (before after : View) (bytes : List ℕ) (r : Result (Unit {0}) Fault) : Type 0 where
  pub says : r ≡ ask_deliver before.closed before.accepted (length before.waiting) (length bytes)
  pub leaves : after ≡ cond (is_ok r) (with_bytes before bytes) before

-- the same, closed
abbrev pub closed_view : View → View
closed_view v = record {
  waiting = v.waiting;
  accepted = v.accepted;
  registered = v.registered;
  records = v.records;
  closed = true;
}

-- what a closing does
pub record Closes (before after : View) (r : Result (Unit {0}) Fault) : Type 0 where
  pub says : r ≡ ask_close before.closed
  pub leaves : after ≡ closed_view before

-- the totals of what an intake holds
abbrev pub totals : View → Totals
totals v = record {
  accepted = v.accepted;
  registered = v.registered;
  passed = v.accepted - v.registered - length v.waiting;
  waiting = length v.waiting;
  records = v.records;
  «open» = not v.closed;
}

-- the place in the stream that the waiting bytes begin at
abbrev pub base : View → ℕ
base v = v.accepted - length v.waiting

-- a record of the waiting bytes, as one of the stream
abbrev pub found_at : View → ℕ → ℕ → ℕ → Found
found_at v place len kind = record { place = base v + place; bytes = take len (drop place v.waiting); kind = kind }

-- a place further on among the waiting bytes: a record of `len` bytes was brought, or bytes were only passed over
abbrev pub advanced : View → ℕ → ℕ → View
advanced v place len = record {
  waiting = drop (place + len) v.waiting;
  accepted = v.accepted;
  registered = v.registered + len;
  records = v.records + 1;
  closed = v.closed;
}

abbrev pub rested : View → ℕ → View
rested v e = record {
  waiting = drop e v.waiting;
  accepted = v.accepted;
  registered = v.registered;
  records = v.records;
  closed = v.closed;
}

-- what comes next lies among the bytes from one place to another, and a record has no more bytes than the reach
abbrev pub NextWithin : ℕ → ℕ → ℕ → Next → Type 0
NextWithin start end reach (Record place len kind) = (start + (place + len) ≤ end) × (1 ≤ len) × (len ≤ reach)
NextWithin start end reach (End place) = start + place ≤ end

-- what a take does to what the intake holds, to the register's entries and to the space
pub data Takes (t : Terms) (before after : View) (es es' : List Entry) (x y : List ℕ) (r : Result Taken Fault) : Type 0 where
  short : length x < t.reach → r ≡ Err SpaceShort → after ≡ before → es' ≡ es → y ≡ x → Takes t before after es es' x y r
  full : t.reach ≤ length x → t.room ≤ length es → r ≡ Err RegisterFull → after ≡ before → es' ≡ es → y ≡ x → Takes t before after es es' x y r
  brings : t.reach ≤ length x → length es < t.room → (place len kind : ℕ)
      → Comes t.verdict before.closed before.waiting 0 place len kind
      → r ≡ Ok (Brought (entry_of t (found_at before place len kind)))
      → after ≡ advanced before place len
      → es' ≡ es ++ (entry_of t (found_at before place len kind) ∷ [])
      → y ≡ take len (drop place before.waiting) ++ drop len x → Takes t before after es es' x y r
  rests : t.reach ≤ length x → length es < t.room → (e : ℕ)
      → Reading t.verdict before.closed before.waiting 0 [] e
      → r ≡ Ok (nothing before.closed)
      → after ≡ rested before e
      → es' ≡ es → y ≡ x → Takes t before after es es' x y r
