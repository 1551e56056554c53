-- A message at the front of the input is the only one there.
use Rattle.std.proofs.Common.{◌≡◌, ◌∙◌, ℕ, List, ◌++◌, length, take, drop, Option, Some, None, refl, sym, ap}
use Rattle.std.proofs.Math.Seq.{take-append_seam, drop-append_seam}
use Rattle.httparse.proofs.GrammarLemmas.{request_unique, response_unique}
use Rattle.co_link.specs.declared.messages.Reply.{Reply}
use Rattle.co_http.specs.Heads.{said, IsHead}
use Rattle.co_http.specs.Replies.{reply_said, IsReply}
use Rattle.co_http.specs.declared.request_head.Head.{Head}
use Rattle.co_http.proofs.MessageHeads.{head_not_empty}

pub only_head : (input : List ℕ) (head other : Option Head) (rest after : List ℕ) → IsHead input head rest → IsHead input other after → (head ≡ other) × (rest ≡ after)
only_head input None None rest after is also = (refl, is.1 ∙ sym also.1)
only_head input None (Some other) rest after is also = absurd (head_not_empty input other after also is.0)
only_head input (Some head) None rest after is also = absurd (head_not_empty input head rest is also.0)
only_head input (Some head) (Some other) rest after is also =
    let one = request_unique input is.0 also.0 rest after is.1.reads also.1.reads in
    let says = sym is.2 ∙ ap said one.0 ∙ also.2 in
    let same : head ≡ other = cc in
    (ap Some same, one.1)

-- two parts of the same bytes
same_parts : (body other rest after : List ℕ) → length body ≡ length other → body ++ rest ≡ other ++ after → (body ≡ other) × (rest ≡ after)
same_parts body other rest after long same = (
  sym (take-append_seam body rest) ∙ ap (take (length body)) same ∙ ap (λ n. take n (other ++ after)) long ∙ take-append_seam other after,
  sym (drop-append_seam body rest) ∙ ap (drop (length body)) same ∙ ap (λ n. drop n (other ++ after)) long ∙ drop-append_seam other after,
)

pub only_reply : (limit most : ℕ) (input : List ℕ) (reply other : Reply) (rest after : List ℕ) → IsReply limit input reply rest → IsReply most input other after → (reply ≡ other) × (rest ≡ after)
only_reply limit most input reply other rest after is also =
    let one = response_unique input is.reads.0 also.reads.0 (reply.body ++ rest) (other.body ++ after) is.reads.1 also.reads.1 in
    let says = sym is.reads.3 ∙ ap reply_said one.0 ∙ also.reads.3 in
    let same : is.head ≡ also.head = cc in
    let status : reply.status ≡ other.status = is.status ∙ ap (λ h. h.status) same ∙ sym also.status in
    let parts = same_parts reply.body other.body rest after (is.whole ∙ ap (λ h. h.length) same ∙ sym also.whole) one.1 in
    (λ i. record { status = status i; body = parts.0 i }, parts.1)
