-- The laws of the words of a queue element transfer descriptor.
use Rattle.std.proofs.Common.{◌≡◌, ℕ, ◌^◌, ◌<◌, List, length, Some, None, Result, Ok, Err, refl, sym, ap, subst, ◌∙◌}
use Rattle.std.specs.Prelude.{slice_index, slice_set, IfOk, IfErr}
use Rattle.link_words.specs.declared.refusal.Bad.{Bad}
use Rattle.link_words.specs.Layout.{word_of, unless_bad}
use Rattle.link_words.proofs.Tables.{Says, words_of-says, says-words_of, unless_bad-ok, unless_bad-err}
use Rattle.link_words.proofs.LinkLaws.{short_link_says, short_link_same}
use Rattle.link_words.specs.declared.fields.ShortLink.{ShortLink}
use Rattle.link_words.specs.Fields.{short_link_rows}
use Rattle.link_words.specs.Links.{qtd_link_of, qtd_link_read}
use Rattle.qh_qtd.specs.declared.token.Token.{Token}
use Rattle.qh_qtd.specs.Token.{token_word, token_at}
use Rattle.qh_qtd.specs.declared.qtd.Qtd.{Qtd}
use Rattle.qh_qtd.specs.Qtd.{qtd_layout, qtd_words, qtd_bad, qtd_at, qtd_read, IsQtdInRange}
use Rattle.qh_qtd.proofs.TokenLaws.{token_says, token_same}

qtd_says : (ws : List ℕ) → Says qtd_layout ws (qtd_at ws)
unfolding qtd_at
qtd_says ws =
    (short_link_says (slice_index ws 0), (short_link_says (slice_index ws 1), (token_says (slice_index ws 2), ((refl, (refl, tt)), ((refl, tt), ((refl, tt), ((refl, tt), ((refl, tt), tt))))))))

qtd_same : (ws : List ℕ) (q : Qtd) → Says qtd_layout ws q → q ≡ qtd_at ws
unfolding qtd_at
qtd_same ws q (next, (alternate, (token, ((page0, (offset, _)), ((page1, _), ((page2, _), ((page3, _), ((page4, _), _)))))))) = λ i. record {
  next = short_link_same (slice_index ws 0) q.next next i;
  alternate = short_link_same (slice_index ws 1) q.alternate alternate i;
  token = token_same (slice_index ws 2) q.token token i;
  offset = offset i;
  page0 = page0 i;
  page1 = page1 i;
  page2 = page2 i;
  page3 = page3 i;
  page4 = page4 i;
}

-- a descriptor that was written is read
pub qtd_read-words : (q : Qtd) → IsQtdInRange q → qtd_read (qtd_words q) ≡ Ok q
unfolding qtd_read qtd_bad qtd_words
qtd_read-words q fit =
    let said = says-words_of qtd_layout (qtd_words q) q refl fit refl in
    ap (λ bad. unless_bad bad (qtd_at (qtd_words q))) said.1 ∙ ap Ok (sym (qtd_same (qtd_words q) q said.0))

-- what no reserved bit breaks is written as it was
qtd_whole : (ws : List ℕ) → length ws ≡ 8 → ((k : ℕ) → slice_index ws k < 2 ^ 32) → qtd_bad ws ≡ None → (qtd_words (qtd_at ws) ≡ ws) × IsQtdInRange (qtd_at ws)
unfolding qtd_bad qtd_words
qtd_whole ws lengths small free = words_of-says qtd_layout ws (qtd_at ws) refl lengths small (qtd_says ws) free

-- a descriptor that was read is written as it was
pub qtd_words-read : (ws : List ℕ) (q : Qtd) → length ws ≡ 8 → ((k : ℕ) → slice_index ws k < 2 ^ 32) → qtd_read ws ≡ Ok q → (qtd_words q ≡ ws) × IsQtdInRange q
unfolding qtd_read
qtd_words-read ws q lengths small e =
    let answer = unless_bad-ok (qtd_bad ws) (qtd_at ws) q e in
    subst (λ x. (qtd_words x ≡ ws) × IsQtdInRange x) answer.1 (qtd_whole ws lengths small answer.0)

-- ---- what an answer says

pub qtd_accepts : (ws : List ℕ) (r : Result Qtd Bad) → length ws ≡ 8 → ((k : ℕ) → slice_index ws k < 2 ^ 32) → r ≡ qtd_read ws → IfOk r (λ q. (qtd_words q ≡ ws) × IsQtdInRange q)
qtd_accepts ws (Ok q) lengths small e = qtd_words-read ws q lengths small (sym e)
qtd_accepts ws (Err bad) lengths small e = tt

pub qtd_reads_back : (ws : List ℕ) (r : Result Qtd Bad) → r ≡ qtd_read ws → (q : Qtd) → IsQtdInRange q → qtd_words q ≡ ws → r ≡ Ok q
qtd_reads_back ws r e q fit same = e ∙ ap qtd_read (sym same) ∙ qtd_read-words q fit

pub qtd_refuses : (ws : List ℕ) (r : Result Qtd Bad) → r ≡ qtd_read ws → IfErr r (λ bad. qtd_bad ws ≡ Some bad)
unfolding qtd_read
qtd_refuses ws (Ok q) e = tt
qtd_refuses ws (Err bad) e = unless_bad-err (qtd_bad ws) (qtd_at ws) bad (sym e)

-- ---- one word of a descriptor

pub qtd_words-length : (q : Qtd) → length (qtd_words q) ≡ 8
unfolding qtd_words
qtd_words-length q = refl

-- a store of the token's word changes the token alone
pub qtd_words-token : (q : Qtd) (t : Token) → slice_set (qtd_words q) 2 (token_word t) ≡ qtd_words (record q { token = t })
unfolding qtd_words token_word
qtd_words-token q t = refl

-- a store of the next link's word changes that link alone
pub qtd_words-next : (q : Qtd) (l : ShortLink) → slice_set (qtd_words q) 0 (word_of short_link_rows l) ≡ qtd_words (record q { next = l })
unfolding qtd_words
qtd_words-next q l = refl

-- the fields that single words say
pub qtd_at-token : (ws : List ℕ) → (qtd_at ws).token ≡ token_at (slice_index ws 2)
unfolding qtd_at
qtd_at-token ws = refl

pub qtd_at-next : (ws : List ℕ) → qtd_link_of (qtd_at ws).next ≡ qtd_link_read (slice_index ws 0)
unfolding qtd_at qtd_link_read
qtd_at-next ws = refl

pub qtd_at-alternate : (ws : List ℕ) → qtd_link_of (qtd_at ws).alternate ≡ qtd_link_read (slice_index ws 1)
unfolding qtd_at qtd_link_read
qtd_at-alternate ws = refl

-- ---- what was read

pub qtd_read-is : (ws : List ℕ) (q : Qtd) → qtd_read ws ≡ Ok q → q ≡ qtd_at ws
unfolding qtd_read
qtd_read-is ws q e = sym (unless_bad-ok (qtd_bad ws) (qtd_at ws) q e).1

pub qtd_read-next : (ws : List ℕ) (q : Qtd) → qtd_read ws ≡ Ok q → qtd_link_of q.next ≡ qtd_link_read (slice_index ws 0)
qtd_read-next ws q e = ap (λ x. qtd_link_of x.next) (qtd_read-is ws q e) ∙ qtd_at-next ws

pub qtd_read-alternate : (ws : List ℕ) (q : Qtd) → qtd_read ws ≡ Ok q → qtd_link_of q.alternate ≡ qtd_link_read (slice_index ws 1)
qtd_read-alternate ws q e = ap (λ x. qtd_link_of x.alternate) (qtd_read-is ws q e) ∙ qtd_at-alternate ws

pub qtd_read-token : (ws : List ℕ) (q : Qtd) → qtd_read ws ≡ Ok q → q.token ≡ token_at (slice_index ws 2)
qtd_read-token ws q e = ap (λ x. x.token) (qtd_read-is ws q e) ∙ qtd_at-token ws

-- for `using`: that what was written is read, and what single words say and change
pub ruleset qtd_laws = (qtd_read-words, qtd_words-length, qtd_words-token, qtd_words-next, qtd_at-token, qtd_at-next, qtd_at-alternate)
