-- The answers of an intake, case by case, and the questions that each call asks. Assumes nothing.
use Rattle.std.specs.Prelude.{ℕ, ◌+◌, Bool, true, false, cond, Ok, Err, Result, nat_le}
use Rattle.common.specs.declared.refusal.Refusal.{Refusal}
use Rattle.stream.specs.declared.answers.Fault.{Fault}
use Rattle.stream.specs.declared.answers.Fault.TheVariants.{Closed, TooMany, NoRoom, SpaceShort, RegisterFull}
use Rattle.stream.specs.declared.answers.Taken.{Taken}
use Rattle.stream.specs.declared.answers.Taken.TheVariants.{NotYet, Drained}

-- each refusal's number; the layer is 1, and no place is named
abbrev refuse : ℕ → Refusal
refuse n = record { number = n; layer = 1; place = 0 }

abbrev pub told : Fault → Refusal
told Closed = refuse 1
told TooMany = refuse 2
told NoRoom = refuse 3
told SpaceShort = refuse 4
told RegisterFull = refuse 5

-- how many bytes are accepted in all, and may wait, and how many entries a register holds, at most
abbrev pub most_accepted : ℕ
most_accepted = 1099511627776

abbrev pub most_waiting : ℕ
most_waiting = 8192

abbrev pub most_entries : ℕ
most_entries = 3968

-- a delivery of n bytes: is the stream open? would not too many be accepted? would not too many wait?
abbrev pub ask_deliver : Bool → ℕ → ℕ → ℕ → Result (Unit {0}) Fault
ask_deliver closed accepted waiting n =
    cond closed (Err Closed) (cond (nat_le (accepted + n) most_accepted) (cond (nat_le (waiting + n) most_waiting) (Ok tt) (Err NoRoom)) (Err TooMany))

-- a closing: is the stream open?
abbrev pub ask_close : Bool → Result (Unit {0}) Fault
ask_close closed = cond closed (Err Closed) (Ok tt)

-- what a take says where there is no record
abbrev pub nothing : Bool → Taken
nothing true = Drained
nothing false = NotYet
