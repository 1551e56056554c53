use Rattle.std.proofs.Common.{◌≡◌, ◌+◌, ◌-◌, ◌*◌, take, drop, arith}
use Rattle.co_server.proofs.tables.record_of.Goals as goal

pub returns : goal.returns
returns c =
    let start = c.args.document * 256 in
    let size : start + 256 - start ≡ 256 = omega arith in
    λ t. take (size t) (drop start (c.records-records.ensures t))
