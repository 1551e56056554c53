use Rattle.std.proofs.Common.{◌≡◌, ℕ, ◌≤◌, ◌∙◌, sym, ap, subst, arith, true, List, [], ◌∷◌, ◌++◌, length, length-append}
use Rattle.std.specs.Prelude.{All}
use Rattle.std.proofs.lemmas.List.Elements.{All-push}
use Rattle.std.proofs.lemmas.Result.{err_from_is_err_and}
use Rattle.co_pack.specs.declared.records.Record.{Record}
use Rattle.co_bucket.specs.Lists.{bucket_count}
use Rattle.co_rounds.specs.Placing.{document_at}
use Rattle.co_rounds.specs.Recording.{is_within_bins}
use Rattle.co_client.specs.Gathered.{with_bins}
use Rattle.co_client.specs.Records.{record_read}
use Rattle.co_client.proofs.Readings.{more-read, all-read, fault-read, places-long, place-there}
use Rattle.co_client.proofs.recording.read_records.Goals as goal

pub bounds-places-bucket : goal.bounds-places-bucket
bounds-places-bucket c =
    let s = c.args.reader.now.shape in
    omega (arith, c.bucket_of-bucket.ensures, c.requires.placed.within c.loop-rank.rank (omega arith), places-long s c.args.hits.now c.args.placed.now c.args.places.now c.requires.places)

pub overflow_cast-bucket : goal.overflow_cast-bucket
overflow_cast-bucket c =
    let s = c.args.reader.now.shape in
    let few : s.hits ≤ 64 = grind (arith, c.degree.ensures.ranges.hits_high) in
    let room : bucket_count s.hits ≤ 96 = omega arith in
    omega (arith, c.bucket_of-bucket.ensures, c.requires.placed.within c.loop-rank.rank (omega arith), room)

pub read_one-requires-clause-place : goal.read_one-requires-clause-place
read_one-requires-clause-place c =
    place-there c.args.reader.now.shape c.args.hits.now c.args.placed.now c.args.places.now c.loop-rank.rank c.bucket_of-bucket.result c.requires.placed c.requires.places (omega arith) c.bucket_of-bucket.ensures

pub returns-in_err-record-clause-read : goal.returns-in_err-record-clause-read
returns-in_err-record-clause-read c =
    let p = err_from_is_err_and c.from_residual.result c.from_residual.ensures.1 in
    let r = c.args.reader.now in
    let s = with_bins r.shape c.args.bins in
    let hits = c.args.hits.now in
    let rank = c.loop-rank.rank in
    rw (p.1, p.2)
    (fault-read s r.secret c.args.body.now c.args.placed.now hits rank c.loop-rank.records c.in_err-record.field-0.0 (omega arith) c.loop-rank.invariant.read
    (λ cs all spelled want. ap (λ (k : ℕ). record_read s r.secret cs k (document_at hits rank)) (sym c.bucket_of-bucket.ensures) ∙ c.in_err-record.ensures.read cs all spelled want))

pub loop-rank-preserved : goal.loop-rank-preserved
loop-rank-preserved c =
    let r = c.args.reader.now in
    let s = with_bins r.shape c.args.bins in
    let hits = c.args.hits.now in
    let rank = c.loop-rank.rank in
    let front = c.loop-rank.records in
    let one = c.in_ok-record.record in
    let added : c.push.new.self ≡ front ++ one ∷ [] = c.in-Ok-push.ensures.ok in
    record {
      read = more-read s r.secret c.args.body.now c.args.placed.now hits rank front c.push.new.self one (omega arith) c.loop-rank.invariant.read added
          (λ cs all spelled. ap (λ (k : ℕ). record_read s r.secret cs k (document_at hits rank)) (sym c.bucket_of-bucket.ensures) ∙ c.in_ok-record.ensures.read cs all spelled);
      within = subst (λ (rs : List Record). All (λ x. is_within_bins s x.place ≡ true) rs) (sym added)
          (All-push (λ (x : Record). is_within_bins s x.place ≡ true) front one c.loop-rank.invariant.within c.in_ok-record.ensures.within);
      long = omega (arith, ap length added, length-append front (one ∷ []), c.loop-rank.invariant.long);
    }

pub returns-clause-read : goal.returns-clause-read
returns-clause-read c =
    let r = c.args.reader.now in
    let s = with_bins r.shape c.args.bins in
    all-read s r.secret c.args.body.now c.args.placed.now c.args.hits.now c.loop-rank.rank c.loop-rank.records (omega arith) c.loop-rank.invariant.read
