-- Worked examples: what the definitions come to on small inputs. Assumes nothing.
use Rattle.std.specs.Prelude.{◌≡◌, ℕ, zero, suc, ◌/◌, ◌%◌, Bool, true, false, cond, not, ◌&&◌, List, [], ◌∷◌, ◌++◌, length, take, replicate, negsuc, is_ok, Ok, codes, ◌==◌}
use Rattle.framing.specs.declared.verdict.Verdict.{Verdict}
use Rattle.framing.specs.declared.verdict.Verdict.TheVariants.{NoFrame, Short, Frame}
use Rattle.framing.specs.Checksum.{checksum}
use Rattle.framing.specs.Plan.{Plan, judged}
use Rattle.framing.specs.Binary.{binary, header_of}
use Rattle.framing.specs.Sentence.{sentence, sentence_of}
use Rattle.framing.specs.Verdicts.{or_else}
use Rattle.reading.specs.Reading.{found, Reading}
use Rattle.format.specs.Meaning.{Meaning, verdict_number, fault_place}
use Rattle.format.specs.Sentence.{sentence_meaning}
use Rattle.format.specs.Text.{text_meaning}
use Rattle.format.specs.Items.{item_of}
use Rattle.velocity.specs.Df3.{df3_meaning}
use Rattle.velocity.specs.Profile.{centre_of}
use Rattle.stream.specs.Answers.{ask_deliver}

pub data Row : Type 0 where
  -- the checksum of some bytes
  sum : List ℕ → ℕ → Row
  -- a framing's verdict on some bytes
  verdict : Plan → List ℕ → Verdict → Row
  -- each shorter beginning of some bytes is short to a framing
  prefixes : Plan → List ℕ → Row
  -- what a format means of a record: its verdict, the place of its fault, and how many parts it has
  meaning : Meaning → ℕ → ℕ → ℕ → Row
  -- whether a new intake keeps a delivery of this many bytes
  keeps : ℕ → Bool → Row

abbrev same : Verdict → Verdict → Bool
same NoFrame NoFrame = true
same NoFrame Short = false
same NoFrame (Frame n k) = false
same Short NoFrame = false
same Short Short = true
same Short (Frame n k) = false
same (Frame m j) NoFrame = false
same (Frame m j) Short = false
same (Frame m j) (Frame n k) = m == n && j == k

abbrev same_truth : Bool → Bool → Bool
same_truth true b = b
same_truth false b = not b

abbrev short_below : Plan → List ℕ → ℕ → Bool
short_below p s zero = true
short_below p s (suc n) = same (judged p (take n s)) Short && short_below p s n

abbrev row_holds : Row → Bool
row_holds (sum s n) = checksum s == n
row_holds (verdict p s v) = same (judged p s) v
row_holds (prefixes p s) = short_below p s (length s)
row_holds (meaning m number place count) = verdict_number m.judgement == number && (fault_place m.judgement == place && length m.parts == count)
row_holds (keeps n yes_or_no) = same_truth (is_ok (ask_deliver false 0 0 n)) yes_or_no

abbrev pub holds : List Row → Bool
holds [] = true
holds (r ∷ rs) = row_holds r && holds rs

-- the tag of Nortek's guide: a string record with identifier 0x13 and a final zero
abbrev tag_header : List ℕ
tag_header = 0xa5 ∷ (0x0a ∷ (0xa0 ∷ (0x10 ∷ (0x2f ∷ (0x00 ∷ (0x42 ∷ (0x8c ∷ (0x42 ∷ (0x5d ∷ [])))))))))

abbrev tag_with : ℕ → List ℕ
tag_with last = tag_header ++ (0x13 ∷ (codes "2017-01-24 08:42:57.449 - This is a test tag." ++ (last ∷ [])))

abbrev tag : List ℕ
tag = tag_with 0

-- a sentence of Nortek's guide, and its checksum
abbrev pnorc1_with : List ℕ → List ℕ
pnorc1_with digits = codes "$PNORC1,083013,132455,3,11.0,0.332,0.332,0.332,78.9,78.9,78.9,78,78,78*" ++ (digits ++ (13 ∷ (10 ∷ [])))

abbrev pnorc1 : List ℕ
pnorc1 = pnorc1_with (codes "46")

-- a frame with this many data bytes, and a sentence with this many payload bytes
abbrev with_data : ℕ → List ℕ
with_data n = header_of 0x15 (replicate n 7) ++ replicate n 7

abbrev with_payload : ℕ → List ℕ
with_payload n = sentence_of (replicate n 65)

-- a sentence with this many commas
abbrev with_commas : ℕ → List ℕ
with_commas n = sentence_of (replicate n 44)

-- a DF3 record of one beam and one cell, cell size 1,000 and blanking 50: its offset, configuration, date, time, nominal correlation, and what follows the fixed fields
abbrev df3 : ℕ → ℕ → List ℕ → List ℕ → ℕ → List ℕ → List ℕ
df3 offset configuration date time nominal rest =
    let body : List ℕ =
    3 ∷ (offset ∷ (configuration ∷ (0 ∷ (replicate 4 0 ++ (date ++ (time ++ (replicate 14 0
    ++ (1 ∷ (0x10 ∷ (0xE8 ∷ (3 ∷ (50 ∷ (0 ∷ (nominal ∷ (replicate 39 0 ++ rest))))))))))))))) in
    header_of 0x15 body ++ body

-- a date (year since 1900, month from 0, day) and a time (hour, minute, second, hundred microseconds)
abbrev date : ℕ → ℕ → ℕ → List ℕ
date year month day = year ∷ (month ∷ (day ∷ []))

abbrev time : ℕ → ℕ → ℕ → ℕ → List ℕ
time hour minute second hundred = hour ∷ (minute ∷ (second ∷ (hundred % 256 ∷ (hundred / 256 ∷ []))))

abbrev on : List ℕ → List ℕ
on d = df3 76 0 d (time 0 0 0 0) 0 []

abbrev at : List ℕ → List ℕ
at t = df3 76 0 (date 100 1 29) t 0 []

abbrev with_offset : ℕ → List ℕ
with_offset o = df3 o 0 (date 100 1 29) (time 0 0 0 0) 0 []

-- the configuration's bit 7 includes correlations
abbrev with_correlations : ℕ → List ℕ → List ℕ
with_correlations nominal rest = df3 76 0x80 (date 100 1 29) (time 0 0 0 0) nominal rest

abbrev df3_row : List ℕ → ℕ → ℕ → Row
df3_row s number place = meaning (df3_meaning 1 s) number place (cond (number == 0) 41 0)

abbrev df3_rows : List Row
df3_rows =
    -- 29 February 2000 is a date, and 1900, 2023 had none
    df3_row (on (date 100 1 29)) 0 0 ∷ (df3_row (on (date 0 1 29)) 14 20 ∷ (df3_row (on (date 0 1 28)) 0 0 ∷ (df3_row (on (date 123 1 29)) 14 20 ∷ (df3_row (on (date 124 1 29)) 0 0
    ∷ (df3_row (on (date 124 11 31)) 0 0 ∷ (df3_row (on (date 124 12 1)) 14 19 ∷ (df3_row (on (date 124 3 31)) 14 20 ∷ (df3_row (on (date 124 0 0)) 14 20
    -- each field of the time at its last value and past it
    ∷ (df3_row (at (time 23 59 59 9999)) 0 0 ∷ (df3_row (at (time 24 59 59 9999)) 14 21 ∷ (df3_row (at (time 23 60 59 9999)) 14 22
    ∷ (df3_row (at (time 23 59 60 9999)) 14 23 ∷ (df3_row (at (time 23 59 59 10000)) 14 24
    -- the offset, the arrays' end and the correlations
    ∷ (df3_row (with_offset 76) 0 0 ∷ (df3_row (with_offset 75) 13 11 ∷ (df3_row (with_offset 77) 13 11
    ∷ (df3_row (with_correlations 100 (100 ∷ [])) 0 0 ∷ (df3_row (with_correlations 100 []) 16 12 ∷ (df3_row (with_correlations 101 (100 ∷ [])) 17 46
    ∷ (df3_row (with_correlations 100 (101 ∷ [])) 17 86 ∷ []))))))))))))))))))))

abbrev pub table : List Row
table =
    sum [] 0xB58C
    ∷ (sum (1 ∷ []) 0xB68C
    ∷ (sum (1 ∷ (2 ∷ [])) 0xB78D
    ∷ (verdict binary tag (Frame 57 1)
    ∷ (verdict binary (take 56 tag) Short
    ∷ (verdict binary (tag_with 1) NoFrame
    ∷ (prefixes binary tag
    ∷ (verdict sentence pnorc1 (Frame 75 2)
    ∷ (verdict sentence (pnorc1_with (codes "47")) NoFrame
    ∷ (prefixes sentence pnorc1
    ∷ (verdict sentence (with_payload 506) (Frame 512 2)
    ∷ (verdict sentence (take 507 (with_payload 506)) Short
    ∷ (verdict sentence (with_payload 507) NoFrame
    ∷ (verdict sentence (take 508 (with_payload 507)) NoFrame
    ∷ (verdict binary (with_data 0) (Frame 10 1)
    ∷ (verdict binary (with_data 8182) (Frame 8192 1)
    ∷ (verdict binary (take 8191 (with_data 8182)) Short
    ∷ (verdict binary (with_data 8183) NoFrame
    ∷ (meaning (sentence_meaning 2 pnorc1) 0 0 14
    ∷ (meaning (sentence_meaning 2 (with_commas 63)) 0 0 64
    ∷ (meaning (sentence_meaning 2 (with_commas 64)) 19 64 0
    ∷ (meaning (text_meaning 1 tag) 0 0 3
    ∷ (meaning (text_meaning 1 (header_of 0xA0 [])) 18 4 0
    ∷ (meaning (text_meaning 1 pnorc1) 10 0 0
    ∷ (keeps 8192 true
    ∷ (keeps 8193 false
    ∷ df3_rows)))))))))))))))))))))))))

-- the verdict of the pair of both framings
abbrev pub both : List ℕ → Verdict
both s = or_else (judged binary s) (judged sentence s)

-- a sync byte before the tag: one byte is passed over, and the record is at place 1
abbrev pub OnePassed : Type 0
OnePassed = Reading both true (0xA5 ∷ tag) 0 (found (0xA5 ∷ tag) 1 57 1 ∷ []) 58

-- the first two bytes of a header, and then the end: both are passed over
abbrev pub TwoPassed : Type 0
TwoPassed = Reading both true (0xA5 ∷ (0x0A ∷ [])) 0 [] 2

-- FE FF, as a signed item of two bytes, is -2
abbrev pub MinusTwo : Type 0
MinusTwo = item_of (0xFE ∷ (0xFF ∷ [])) (record { code = 1; place = 0; width = 2; count = 1; signed = true }) 0 ≡ Ok (negsuc 1)

-- with blanking 50 and cell size 1,000, the centre of cell 1 lies at 1,500
abbrev pub Centre : Type 0
Centre = centre_of 1 (on (date 100 1 29)) 1 ≡ Ok 1500
