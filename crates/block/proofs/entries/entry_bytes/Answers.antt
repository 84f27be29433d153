use Rattle.std.proofs.Common.{◌<◌, ◌∙◌, rules}
use Rattle.block.proofs.Codec.{le_eight, sixteen_is}
use Rattle.block.proofs.entries.entry_bytes.Goals as goal

pub returns-clause-bytes : goal.returns-clause-bytes
returns-clause-bytes c =
    let e = c.args.entry in
    let k : e.kind < 256 = search rules in
    let s : e.series < 256 = search rules in
    sixteen_is e.place e.len e.kind e.series e.verdict e.fault c.to_le_bytes.result c.to_le_bytes-2.result
    c.to_le_bytes-3.result c.to_le_bytes-4.result (c.to_le_bytes.ensures ∙ le_eight e.place) c.to_le_bytes-2.ensures
    c.to_le_bytes-3.ensures c.to_le_bytes-4.ensures k s
