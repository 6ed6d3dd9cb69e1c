-- What follows of the promise: it fixes the whole outcome; of a readable text its own records are listed, up to the first that was not played; and the bytes of
-- a reply and of a number are read as that reply and that number.
use Prim.Native.Nat.{ℕ, suc, ◌+◌, ◌*◌, ◌/◌, ◌%◌}
use native.Mathlib.Omega.{arith}
use borrow.Author.Rules.{rules}
use native.Mathlib.Nat.{add-zero}
use mathlib.Core.Path.{◌≡◌, sym, ap, ap₂, subst, ◌∙◌}
use mathlib.Core.Bool.{Bool}
use mathlib.Core.List.{List, [], ◌∷◌, ◌++◌}
use lib.ListN.{length, drop, get_or, length-append}
use lib.Seq.{drop-drop, drop-append_seam, get_or-append-add}
use Rattle.law.specs.Choice.{split}
use Rattle.law.specs.Words.{pick, All}
use Rattle.record.specs.declared.Record.{Record}
use Rattle.record.specs.declared.Board.{Board}
use Rattle.record.specs.declared.Reply.{Reply}
use Rattle.record.specs.declared.Match.{Match}
use Rattle.record.specs.Lengths.{replies_length}
use Rattle.record.specs.Replies.{reply_kind, reply_value, match_number, reply_bytes}
use Rattle.line.specs.Records.{spelled, RecordOk}
use Rattle.line.specs.Boards.{spelled_board}
use Rattle.line.proofs.OutputLaws.{spelled_length_min}
use Rattle.text.specs.Texts.{spelled_all, spelled_trace, Readable}
use Rattle.text.proofs.Theorems.{first_place_lem}
use Rattle.record.specs.ReplyOf.{reply_of}
use Rattle.record.proofs.ReplyOf.{reply_back}
use Rattle.listing.specs.Bytes.{match_of, was_played, reply_at, match_at, number_at}
use Rattle.listing.specs.Listing.{ListedFrom, Listed, listing_of, Formats, Lists}
use Rattle.listing.specs.Pages.{ListsPages}
use Rattle.listing.specs.Writing.{played}
use Rattle.listing.proofs.Which.{listed_behind, one_listed, some_listed}

-- a listing and its buffers fix number and output
formats_one : {size : ℕ} {listed result w old new new' : List ℕ} {n n' : ℕ} → Formats size listed result w old new n → Formats size listed result w old new' n' → (n ≡ n') × (new ≡ new')
formats_one p q = (p.answer ∙ sym q.answer, p.content ∙ sym q.content)

-- any two outcomes that the promise of `list_pages` admits are equal
pub pages_determined : (table result old new new' : List ℕ) (n n' : ℕ) → ListsPages table result old new n → ListsPages table result old new' n' → (n ≡ n') × (new ≡ new')
pages_determined table result old new new' n n' p q = formats_one p q

-- ---- the records that are listed
module _ (text replies : List ℕ) where
  -- there is exactly one list of them
  pub exactly_one : (rs : List Record) × Listed text replies rs × ((xs : List Record) → Listed text replies xs → rs ≡ xs)
  exactly_one = let t = some_listed text replies in (t.0, t.1, λ xs l. one_listed text replies t.0 xs t.1 l)

  -- the listing is that of any list of records that are listed
  pub listing_is : (result old new : List ℕ) (n : ℕ) (rs : List Record) → Lists text replies result old new n → Listed text replies rs → Formats replies_length replies result (listing_of rs replies result) old new n
  listing_is result old new n rs p l = subst (λ (xs : List Record). Formats replies_length replies result (listing_of xs replies result) old new n) (one_listed text replies p.records rs p.listed l) p.formats

  -- any two outcomes that the promise of `list` admits are equal
  pub list_determined : (result old new new' : List ℕ) (n n' : ℕ) → Lists text replies result old new n → Lists text replies result old new' n' → (n ≡ n') × (new ≡ new')
  list_determined result old new new' n n' p q = formats_one (listing_is result old new n q.records p q.listed) q.formats

  -- records that are the whole rest of a text
  rest_listed : (rs : List Record) (at k : ℕ) → All RecordOk rs → drop at text ≡ spelled_all rs → ListedFrom text replies at k (played replies k rs)
  unfolding ListedFrom played All spelled_all
  rest_listed [] at k o e = λ r p s. absurd (omega (arith, spelled_length_min r p.0, length-append (spelled r) s.rest, ap length (sym s.is ∙ e)))
  rest_listed (r ∷ rs) at k o e =
      let t = rest_listed rs (at + length (spelled r)) (suc k) o.1 (sym (drop-drop (length (spelled r)) at text) ∙ ap (λ (l : List ℕ). drop (length (spelled r)) l) e ∙ drop-append_seam (spelled r) (spelled_all rs)) in
      split (was_played (reply_at replies k))
      (λ d. subst (λ (b : Bool). ListedFrom text replies at k (pick b (r ∷ played replies (suc k) rs) [])) (sym d) (o.0, record { rest = spelled_all rs; is = e }, d, t))
      (λ d. subst (λ (b : Bool). ListedFrom text replies at k (pick b (r ∷ played replies (suc k) rs) [])) (sym d) (λ x p s. d))

  -- of a readable text its own records are listed, up to the first that was not played
  pub readable_listed : (b : Board) (rs : List Record) → Readable text b rs → Listed text replies (played replies 0 rs)
  unfolding spelled_trace
  readable_listed b rs d =
      listed_behind text replies b (played replies 0 rs) d.board (record { rest = spelled_all rs; is = d.is })
      (rest_listed rs (length (spelled_board b)) 0 d.fits (first_place_lem d))

-- ---- bytes
match_back : (m : Match) → match_of (match_number m) ≡ m
match_back m = search rules

-- the four bytes of a reply, at their place, are read as that reply with that match
module _ (before rest : List ℕ) (k : ℕ) (r : Reply) (m : Match) (here : length before ≡ 4 * k) where
  byte : (j : ℕ) → get_or (before ++ (reply_bytes r m ++ rest)) (4 * k + j) 0 ≡ get_or (reply_bytes r m ++ rest) j 0
  byte j = ap (λ (n : ℕ). get_or (before ++ (reply_bytes r m ++ rest)) (n + j) 0) (sym here) ∙ get_or-append-add before (reply_bytes r m ++ rest) j 0

  pub reply_there : reply_at (before ++ (reply_bytes r m ++ rest)) k ≡ r
  unfolding reply_at
  reply_there =
      ap₂ (λ (a b : ℕ). reply_of a b (get_or (before ++ (reply_bytes r m ++ rest)) (4 * k + 2) 0)) (ap (λ (n : ℕ). get_or (before ++ (reply_bytes r m ++ rest)) n 0) (sym (add-zero (4 * k))) ∙ byte 0) (byte 1)
      ∙ ap (λ (c : ℕ). reply_of (reply_kind r) (reply_value r) c) (byte 2)
      ∙ reply_back r

  pub match_there : match_at (before ++ (reply_bytes r m ++ rest)) k ≡ m
  unfolding match_at
  match_there = ap match_of (byte 3) ∙ match_back m

-- a number's four bytes, low byte first, are read as that number
pub number_back : (n : ℕ) (rest : List ℕ) → number_at (n % 256 ∷ n / 256 % 256 ∷ n / 65536 % 256 ∷ n / 16777216 ∷ rest) 0 ≡ n
unfolding number_at
number_back n rest = omega arith
