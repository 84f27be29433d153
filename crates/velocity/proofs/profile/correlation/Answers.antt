use Rattle.std.proofs.Common.{◌+◌, ◌<◌, length, get_or, ap, arith}
use Rattle.velocity.specs.Df3.{correlations, correlation_position}
use Rattle.velocity.proofs.Items.{all_items}
use Rattle.velocity.proofs.Profiles.{correlation_low}
use Rattle.velocity.proofs.profile.correlation.Goals as goal

pub bounds-record-correlation_position : goal.bounds-record-correlation_position
bounds-record-correlation_position c = omega (arith, all_items 7 c.in_ok-record.field-0.fixed.bytes.now, c.in_ok-i.ensures.within)

pub invariant_of-result : goal.invariant_of-result
invariant_of-result c =
    let r = c.in_ok-record.field-0 in
    let s = r.fixed.bytes.now in
    let i = c.in_ok-i.i in
    let there : i < correlations s = omega (arith, all_items 7 s, c.in_ok-i.ensures.within) in
    let inside : correlation_position s + 10 + i < length s = omega arith in
    record { most = omega (arith, correlation_low s r.low i there inside, ap (λ n. get_or s (n + 10 + i) 0) c.correlation_position.ensures.value) }
