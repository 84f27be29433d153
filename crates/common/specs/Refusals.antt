-- What the numbers of refusals say. Assumes nothing.
use Rattle.std.specs.Prelude.{ℕ, cond, List, ◌++◌, codes, decimal, ◌==◌}
use Rattle.common.specs.declared.refusal.Refusal.{Refusal}

-- what does not hold, by the refusal's number
abbrev pub meaning : ℕ → List ℕ
meaning n =
    cond (n == 1) (codes "the stream is closed") (
    cond (n == 2) (codes "more than 2^40 bytes would have been accepted") (
    cond (n == 3) (codes "more than 8,192 bytes would wait") (
    cond (n == 4) (codes "the space is shorter than the framing's reach") (
    cond (n == 5) (codes "the register has no free place") (
    cond (n == 10) (codes "no format claims the record") (
    cond (n == 11) (codes "too few data bytes") (
    cond (n == 12) (codes "another version or instrument type") (
    cond (n == 13) (codes "the offset is outside the data") (
    cond (n == 14) (codes "the clock is not a date and time") (
    cond (n == 15) (codes "the number of beams or cells is wrong") (
    cond (n == 16) (codes "the arrays end outside the data") (
    cond (n == 17) (codes "a correlation is above 100") (
    cond (n == 18) (codes "the string record has no data") (
    cond (n == 19) (codes "the sentence has more than 64 fields") (
    cond (n == 20) (codes "the table is too short for the parts") (
    cond (n == 21) (codes "the part is outside the record") (
    cond (n == 22) (codes "the part has no such item") (
    cond (n == 23) (codes "no accepted DF3 record with that array") (
    cond (n == 24) (codes "there is no such beam or cell") (
    cond (n == 25) (codes "the data do not fit the frame or its space") (
    cond (n == 26) (codes "the line does not fit its space") (
    cond (n == 27) (codes "more than 3,968 entries, or the space is too short for their blocks") (
    cond (n == 28) (codes "the bytes are not whole blocks, or more than 128") (
    cond (n == 29) (codes "a block's checksum is wrong") (
    cond (n == 30) (codes "a block's count, number, zeros or free entries are wrong") (
    cond (n == 31) (codes "the table is too short for the entries") (codes "unknown")))))))))))))))))))))))))))

-- a refusal as text: its number and what that says
abbrev pub refusal_text : Refusal → List ℕ
refusal_text r = decimal r.number ++ (codes ": " ++ meaning r.number)
