-- The demands hold: each claim by its theorem.
use mathlib.Core.List.{List}
use Prim.Native.Nat.{ℕ}
use native.Mathlib.Omega.{arith}
use borrow.Author.Tests.{le-ltb}
use Rattle.meaning.specs.Meaning.{Allowed}
use Rattle.record.specs.declared.Board.{Board}
use Rattle.record.specs.declared.Record.{Record}
use Rattle.machine.specs.Machine.{on_machine}
use Rattle.text.specs.Texts.{spelled_trace, Readable}
use Rattle.buffers.specs.Buffers.{Buffers}
use Rattle.call.specs.Replay.{Ended, Replays}
use Rattle.demands.specs.Grounds.{Taken, Grounds, Refusals}
use Rattle.demands.specs.Stops.{Stops}
use Rattle.demands.specs.Replies.{Replies}
use Rattle.demands.specs.Doubt.{Doubt}
use Rattle.demands.specs.Lines.{Reordered}
use Rattle.demands.specs.Demands.{AllDemands}
use Rattle.demands.proofs.FirstBadLine.{bad_buffers, too_long, wrong_form, back_in_time, impossible, first_bad_line, bad_field, no_field, untouched, wrong_result_length}
use Rattle.demands.proofs.Grounds.{settled_grounds, stop_grounds, no_other}
use Rattle.demands.proofs.Stops.{stops_earliest, settled_means, settled_shows, stop_shows, settled_alike, stop_alike, reason_stays, not_forgiven, differ_means_two}
use Rattle.demands.proofs.Replies.{each_reply, each_played}
use Rattle.demands.proofs.Count.{count_is, count_fits}
use Rattle.demands.proofs.Disjoint.{sure_means_disjoint, replies_disjoint}
use Rattle.demands.proofs.Rewritten.{lines_readable}
use Rattle.demands.proofs.OrderOfLines.{order_of_lines, replies_follow}
use Rattle.demands.proofs.Determined.{determined}

module _ {text : List ℕ} {x : Buffers} {e : Ended} (p : Replays text x e) where
  grounds : Grounds text x e
  grounds = record {
    bad_buffers = bad_buffers p;
    too_long = too_long p;
    wrong_form = wrong_form p;
    back_in_time = back_in_time p;
    impossible = impossible p;
    first_bad_line = first_bad_line p;
    bad_field = bad_field p;
    no_field = no_field p;
    settled = settled_grounds p;
    stopped = stop_grounds p;
    no_other = no_other p;
  }

  refusals : Refusals x e
  refusals = record { untouched = untouched p; wrong_result_length = wrong_result_length p }

  module _ (b : Board) (rs : List Record) (k : Taken text x b rs) where
    stops : Stops x e b rs
    stops = record {
      stops_earliest = stops_earliest p k.fits k.within k.readable;
      settled_means = settled_means p k.fits k.within k.readable;
      settled_shows = settled_shows p k.fits k.within k.readable;
      stop_shows = stop_shows p k.fits k.within k.readable;
      settled_alike = settled_alike p k.fits k.within k.readable;
      stop_alike = stop_alike p k.fits k.within k.readable;
      reason_stays = reason_stays p k.fits k.within k.readable;
      not_forgiven = not_forgiven p k.fits k.within k.readable;
      differ_means_two = differ_means_two p k.fits k.within k.readable;
    }

    replies : Replies x e b rs
    replies = record {
      each_reply = λ h o r more s. each_reply p k.fits k.within k.readable o r more s h;
      each_played = λ h o r more s. each_played p k.fits k.within k.readable o r more s h;
      count_is = count_is p k.fits (le-ltb _ _ k.within) k.readable;
      count_fits = omega (arith, count_fits p k.fits (le-ltb _ _ k.within) k.readable);
    }

  doubt : Doubt text x e
  doubt = record {
    images = sure_means_disjoint p;
    replies = λ b rs k. replies_disjoint p k.fits (le-ltb _ _ k.within) k.readable;
  }

  reordered : (b : Board) (rs ls : List Record) (e' : Ended) → Readable text b rs → Allowed (on_machine b) rs ls → Replays (spelled_trace b ls) x e' → Reordered text x b rs ls e e'
  reordered b rs ls e' q a p' = record {
    lines_readable = lines_readable b rs ls a q;
    order_of_lines = order_of_lines q a p p';
    replies_follow = λ k. replies_follow q a p p' k.fits (le-ltb _ _ k.within);
  }

pub demands : AllDemands
demands text x e p = record {
  grounds = grounds p;
  refusals = refusals p;
  stops = stops p;
  replies = replies p;
  doubt = doubt p;
  reordered = reordered p;
  determined = λ e'. determined p;
}
