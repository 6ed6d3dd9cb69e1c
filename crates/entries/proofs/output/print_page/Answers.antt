use Rattle.std.proofs.Common.{◌≡◌, ℕ, ◌+◌, ◌-◌, ◌<◌, sym, ap, ◌∙◌, arith, length-drop}
use lib.ListN.{length-take}
use Rattle.field.specs.Hex.{hex_field}
use Rattle.std.proofs.lemmas.List.Edits.{sets}
use Rattle.entries.proofs.Digits.{hex_none, page_byte, page_more, page_ended}
use Rattle.entries.proofs.output.print_page.Goals as goal

pub loop-byte-init : goal.loop-byte-init
loop-byte-init c = (omega arith, ap (sets c.args.out.now c.args.first) (sym hex_none))

pub loop-byte-preserved : goal.loop-byte-preserved
loop-byte-preserved c =
    let a = c.args in
    let l = c.loop-byte in
    let t = simp (length-take, length-drop) at c.loop-byte-test.true in
    let h : l.byte-index < 256 = omega (arith, t, c.requires.0) in (
      omega (arith, c.print_byte-at.ensures.0),
      page_more a.list.now a.out.now a.from a.first c.requires.0 l.out _ l.at l.byte-index h l.invariant.0 l.invariant.1
          (c.print_byte-at.ensures.1 ∙ ap (λ (b : ℕ). sets l.out l.at (hex_field b)) (page_byte a.list.now a.from l.byte-index (a.from + 256 - a.from) h (omega arith))),
    )

pub returns : goal.returns
returns c =
    let a = c.args in
    let l = c.loop-byte in
    let t = simp (length-take, length-drop) at c.loop-byte-test.false in
    let u = simp (length-take, length-drop) at l.auto.byte-index-end in
    let k : l.byte-index ≡ 256 = omega (arith, t, u, c.requires.0) in
    (omega arith, page_ended a.list.now a.out.now a.from a.first c.requires.0 l.out l.at l.byte-index k l.invariant.0 l.invariant.1)
