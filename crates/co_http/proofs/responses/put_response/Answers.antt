use Rattle.std.proofs.Common.{◌≡◌, ℕ, List, ◌++◌, length, ap, subst, ◌∙◌, append_assoc}
use Rattle.httparse.specs.Ascii.{crlf_bytes}
use Rattle.co_link.specs.Held.{Appends}
use Rattle.co_http.specs.Responses.{status_line, length_line, close_line, response}
use Rattle.co_http.proofs.responses.put_response.Goals as goal

pub returns-clause-bytes : goal.returns-clause-bytes
unfolding response
returns-clause-bytes g c =
    let first : List ℕ = status_line c.args.status in
    let second : List ℕ = length_line (length c.args.body.now) in
    let third : List ℕ = close_line c.args.close in
    let head : c.as_slice.result.now ≡ first ++ (second ++ (third ++ crlf_bytes)) =
    c.as_slice.ensures
    ∙ c.push.ensures.text
    ∙ ap (λ (t : List ℕ). t ++ crlf_bytes) (c.push_close.ensures.text ∙ ap (λ (t : List ℕ). t ++ third) (c.push_length.ensures.text ∙ ap (λ (t : List ℕ). t ++ second) (c.push_status.ensures.text ∙ ap (λ (t : List ℕ). t ++ first) c.new-text.ensures)))
    ∙ append_assoc (first ++ second) third crlf_bytes
    ∙ append_assoc first second (third ++ crlf_bytes) in
    let P : List ℕ → Type 0 = λ bytes. Appends (g.K.Sink.put_so_far c.args.sink.now) (g.K.Sink.put_so_far c.put_both.new.sink) bytes c.put_both.result in
    subst P (ap (λ (t : List ℕ). t ++ c.args.body.now) head) c.put_both.ensures.bytes
