use Rattle.std.proofs.Common.{◌∙◌, List, ℕ, ◌*◌, ap, sym, lt-ltb, le-ltb, ne_eqb}
use lib.Seq.{sets}
use Rattle.buffers.specs.Put.{replies_with}
use Rattle.buffers.proofs.Replies.{reply_put}
use Rattle.buffers.proofs.put_reply.Goals as goal
use Rattle.buffers.proofs.put_reply.Goals.{else-number-lt-REPLY_PLACES-via-then-number-lt-REPLY_PLACES+else-replies-eq-REPLIES, else-number-lt-REPLY_PLACES-via-else-number-lt-REPLY_PLACES}

pub returns-then-replies-eq-REPLIES : goal.returns-then-replies-eq-REPLIES
returns-then-replies-eq-REPLIES c =
    let a = c.args in
    c.put_four.ensures
    ∙ ap (λ (vs : List ℕ). sets a.replies.now (4 * a.number) vs) c.bytes.ensures
    ∙ sym (reply_put a.number _ a.replies.now c.if-number-lt-REPLY_PLACES.true c.if-replies-eq-REPLIES.true)

pub returns-else-number-lt-REPLY_PLACES : goal.returns-else-number-lt-REPLY_PLACES
unfolding replies_with
returns-else-number-lt-REPLY_PLACES c =
    elim c.else-number-lt-REPLY_PLACES.branch [
      | else-number-lt-REPLY_PLACES-via-then-number-lt-REPLY_PLACES+else-replies-eq-REPLIES w ↦ simp (lt-ltb _ _ w.if-number-lt-REPLY_PLACES.true, ne_eqb _ _ w.if-replies-eq-REPLIES.false)
      | else-number-lt-REPLY_PLACES-via-else-number-lt-REPLY_PLACES w ↦ simp (le-ltb _ _ w.if-number-lt-REPLY_PLACES.false)
    ]
