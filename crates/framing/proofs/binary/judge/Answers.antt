use Rattle.std.proofs.Common.{◌≡◌, ◌+◌, ◌≤◌, true, length, take, sym, arith, length-take}
use Rattle.std.proofs.lemmas.Option.{cond_some}
use Rattle.framing.specs.Binary.{headed, word}
use Rattle.framing.specs.BinaryPlan.{binary_data}
use Rattle.framing.proofs.binary.judge.Goals as goal

pub returns : goal.returns
returns c =
    let s = c.args.bytes.now in
    let n = c.in-Some-data_size.size in
    let parts = c.in-Some.ensures.cases in
    let right = cond_some _ _ _ (sym c.in-Some-data_size.ensures) in
    let headed_right : headed (take 10 s) ≡ true = cc in
    let size : word (take 10 s) 4 ≡ n = cc in
    let there : 10 + word (take 10 s) 4 ≤ length s = omega arith in
    let long : length (take n c.in-Some.data.now) ≡ n = simp length-take (omega arith) in
    let frame = binary_data s c.if-bytes.false c.if-bytes-ne-HEADER_BYTE.false headed_right there in
    cc
