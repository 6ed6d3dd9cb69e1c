use Rattle.std.proofs.Common.{◌≡◌, ℕ, ◌+◌, List, length, get_or, sym, ap, ◌∙◌, arith}
use Rattle.std.proofs.lemmas.List.Edits.{sets}
use Rattle.field.specs.Spelling.{no_bytes, put_all}
use Rattle.planner.specs.Kinds.{kind_byte}
use Rattle.entries.specs.Lines.{head_line, kind_at}
use Rattle.entries.proofs.Walk.{inside_program, program_length, erase_length, head_fits, program_printed, erase_printed, no_program}
use Rattle.entries.proofs.Putting.{head_held}
use Rattle.entries.proofs.list.print_entry.Goals as goal

pub copy_line-at-requires : goal.copy_line-at-requires
copy_line-at-requires c =
    let a = c.args in
    let put = c.head_line-head.ensures ∙ ap (λ (k : ℕ). put_all no_bytes (head_line k (get_or a.list.now (a.from + 1) 0) (get_or a.list.now (a.from + 2) 0) (get_or a.list.now (a.from + 3) 0))) c.requires.0 in
    let h = head_held _ _ _ _ put in
    omega (arith, ap length h, head_fits a.list.now a.from, c.requires.2)

pub print_page-requires : goal.print_page-requires
print_page-requires c =
    let a = c.args in
    let put = c.head_line-head.ensures ∙ ap (λ (k : ℕ). put_all no_bytes (head_line k (get_or a.list.now (a.from + 1) 0) (get_or a.list.now (a.from + 2) 0) (get_or a.list.now (a.from + 3) 0))) c.requires.0 in
    let h = head_held _ _ _ _ put in
    let k : kind_at a.list.now a.from ≡ 3 = sym c.requires.0 ∙ ap kind_byte c.in-Program.is in
    let i = inside_program (get_or a.list.now a.from 0) a.from (length a.list.now) k c.requires.1 in
    (omega arith, omega (arith, ap length h, c.copy_line-at.ensures.0, program_length a.list.now a.from k i, c.requires.2))

pub returns-in-Program : goal.returns-in-Program
returns-in-Program c =
    let a = c.args in
    let put = c.head_line-head.ensures ∙ ap (λ (k : ℕ). put_all no_bytes (head_line k (get_or a.list.now (a.from + 1) 0) (get_or a.list.now (a.from + 2) 0) (get_or a.list.now (a.from + 3) 0))) c.requires.0 in
    let h = head_held _ _ _ _ put in
    let k : kind_at a.list.now a.from ≡ 3 = sym c.requires.0 ∙ ap kind_byte c.in-Program.is in
    let i = inside_program (get_or a.list.now a.from 0) a.from (length a.list.now) k c.requires.1 in
    let e = c.copy_line-at.ensures.1 ∙ ap (sets a.out.now a.first) h in
    let f = c.copy_line-at.ensures.0 ∙ ap (λ (l : List ℕ). a.first + length l) h in (
      omega (arith, f, c.print_page.ensures.0, program_length a.list.now a.from k i),
      program_printed a.list.now a.from a.out.now _ a.first _ e f _ k c.print_page.ensures.1,
    )

pub returns-in-SectorErase : goal.returns-in-SectorErase
returns-in-SectorErase c =
    let a = c.args in
    let put = c.head_line-head.ensures ∙ ap (λ (k : ℕ). put_all no_bytes (head_line k (get_or a.list.now (a.from + 1) 0) (get_or a.list.now (a.from + 2) 0) (get_or a.list.now (a.from + 3) 0))) c.requires.0 in
    let h = head_held _ _ _ _ put in
    let e = c.copy_line-at.ensures.1 ∙ ap (sets a.out.now a.first) h in
    let f = c.copy_line-at.ensures.0 ∙ ap (λ (l : List ℕ). a.first + length l) h in
    let none = no_program a.kind c.in-SectorErase.is (kind_at a.list.now a.from) c.requires.0 in (
      omega (arith, f, erase_length a.list.now a.from none),
      erase_printed a.list.now a.from a.out.now _ a.first _ e f none,
    )
