use Rattle.std.proofs.Common.{◌-◌, ◌≡◌, ◌≤◌, take, vec_len}
use Rattle.co_link.specs.Taken.{behind}
use Rattle.co_link.proofs.taking.fill.Given as goal

abbrev pub invariant-filling : goal.invariant-filling
invariant-filling g l = record {
  filled : l.filled ≤ vec_len l.buffer;
  most : vec_len l.buffer ≤ l.most;
  moved : behind (take l.filled l.buffer.items) (g.S.Source.left l.source) ≡ behind l.fn.buffer.items (g.S.Source.left l.fn.source);
  same : g.S.Source.faults l.source ≡ g.S.Source.faults l.fn.source;
  beside : g.S.Source.beside l.source ≡ g.S.Source.beside l.fn.source;
}

abbrev pub decreases-filling : goal.decreases-filling
decreases-filling g l = l.most - l.filled
