use Rattle.std.proofs.Common.{◌≡◌, ℕ, ◌+◌, ◌-◌, ◌*◌, ◌++◌, ◌∙◌, sym, ap, subst, arith, List}
use Rattle.co_bfv.specs.Totals.{ciphertext_at}
use Rattle.co_bfv.specs.Encryptions.{decrypted}
use Rattle.co_slots.specs.Payloads.{IsFirstNoByte}
use Rattle.co_client.proofs.reading.open_one.Goals as goal

pub returns-in-Ok-append-clause-bytes : goal.returns-in-Ok-append-clause-bytes
returns-in-Ok-append-clause-bytes c = λ cs count s. record {
  piece = c.in-Ok.piece;
  added = c.in-Ok-append.ensures.ok ∙ ap (λ (x : List ℕ). c.args.bytes.now ++ x) c.as_slice.ensures;
  payload = c.in-Ok.ensures.opened cs count s;
}

pub returns-in-Err-NotByte-clause-fault : goal.returns-in-Err-NotByte-clause-fault
returns-in-Err-NotByte-clause-fault c = λ cs count s.
    let n = c.args.degree in
    let same : c.args.chunk * c.get-n.result ≡ c.args.chunk * n = ap (λ (k : ℕ). c.args.chunk * k) c.get-n.ensures.value in
    let back : c.args.chunk * c.get-n.result + c.in-Err-NotByte.place - c.args.chunk * n ≡ c.in-Err-NotByte.place = omega (arith, same) in
    record {
      low = omega (arith, same);
      first = subst (λ (k : ℕ). IsFirstNoByte (decrypted c.args.secret.now (ciphertext_at cs c.args.at)) k) (sym back) ((rw c.in-Err-NotByte.field-0-is at c.in-Err-NotByte.ensures.opened) cs count s);
    }
