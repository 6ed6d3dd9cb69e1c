use Rattle.line.proofs.Put.{put_on}
use Rattle.listing.proofs.Putting.{put_three, put_from}
use Rattle.listing.specs.Lines.{record_line}
use Rattle.listing.proofs.lines.record_line.Goals as goal

pub returns : goal.returns
unfolding record_line
returns c =
    put_from _ c.new.ensures
    (put_on _ _ _ c.decimal.ensures
    (put_on _ _ _ c.word.ensures
    (put_on _ _ _ c.decimal-s.ensures
    (put_on _ _ _ c.word-2.ensures
    (put_on _ _ _ c.put_reply-s.ensures
    (put_three _ _ _ _ c.word-3.ensures c.put_match.ensures c.word-4.ensures))))))
