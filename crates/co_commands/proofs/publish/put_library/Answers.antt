use Rattle.std.proofs.Common.{refl, ap, ◌∙◌, Err}
use Rattle.co_commands.specs.Words.{SpokenImport}
use Rattle.co_commands.specs.Commands.{import_shown}
use Rattle.co_commands.specs.Imports.{import_text}
use Rattle.co_commands.proofs.Ending.{put_ends}
use Rattle.co_commands.proofs.Importing.{import_answer, same_files, others_kept, rose_since}
use Rattle.co_commands.proofs.publish.put_library.Goals as goal

pub returns-in-Err-Failed : goal.returns-in-Err-Failed
returns-in-Err-Failed g c =
    let failed = c.in-Err-Failed.ensures.cause.failed (ap Err c.in-Err-Failed.field-0-is) in
    λ was devices published corpus same later. record {
      cause = record {
        library = c.args.library.now;
        of_corpus = published;
        failed = record { rose = rose_since _ _ _ later failed.0; last = failed.1 };
      };
      out = refl;
      files = λ name differs. others_kept _ _ _ name same (c.write-2.ensures.bytes.others name differs);
      uses = refl;
    }

pub unreachable-requires : goal.unreachable-requires
unreachable-requires g c = absurd (c.in-Err-TooLong.ensures.bytes.never_too_long (ap Err c.in-Err-TooLong.field-0-is))

pub returns-in-Err-OutOfMemory : goal.returns-in-Err-OutOfMemory
returns-in-Err-OutOfMemory g c = λ was devices published corpus same later. record {
  cause = tt;
  out = refl;
  files = same_files _ _ (c.in-Err-OutOfMemory.ensures.bytes.kept (ap Err c.in-Err-OutOfMemory.field-0-is)) ∙ same;
  uses = refl;
}

pub returns : goal.returns
returns g c = λ was devices published corpus same later.
    let words = import_shown c.args.command.now in
    let printed = import_answer words _ _ _ published.documents c.args.library.now c.as_slice.result.now c.as_bytes.result.now
    published.corpus corpus published.published same c.in-Ok-write-2.ensures.bytes.put
    (c.as_slice.ensures ∙ c.in-Ok-write.ensures) (c.as_bytes.ensures.value ∙ c.in-Ok.ensures ∙ ap import_text c.shape.ensures.value) in
    put_ends (SpokenImport words) _ _ c.as_bytes.result.now c.put_answer.result c.put_answer.ensures printed (λ p. p) tt
    (λ name differs. others_kept _ _ _ name same (c.write-2.ensures.bytes.others name differs)) refl
