use Rattle.std.proofs.Common.{refl}
use Rattle.co_pack.specs.Records.{record_bytes}
use Rattle.co_pack.proofs.Spelling.{length-record_bytes, spelled_record}
use Rattle.co_pack.proofs.laws.written_reads_back.Goals as goal

pub returns-clause-long : goal.returns-clause-long
returns-clause-long c = λ r good. length-record_bytes r.document r.place r.title good.titled.short

pub returns-clause-same : goal.returns-clause-same
returns-clause-same c = λ r good. spelled_record (record_bytes r.document r.place r.title) r good refl
