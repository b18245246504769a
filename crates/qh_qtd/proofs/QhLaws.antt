-- The laws of the words of a queue head.
use Rattle.std.proofs.Common.{◌≡◌, ℕ, ◌^◌, ◌<◌, List, length, Some, None, Result, Ok, Err, refl, sym, ap, subst, ◌∙◌}
use Rattle.std.specs.Prelude.{slice_index, slice_set, IfOk, IfErr}
use Rattle.link_words.specs.declared.refusal.Bad.{Bad}
use Rattle.link_words.specs.Layout.{word_of, unless_bad}
use Rattle.link_words.proofs.Tables.{Says, words_of-says, says-words_of, unless_bad-ok, unless_bad-err}
use Rattle.link_words.proofs.LinkLaws.{link_says, link_same, short_link_says, short_link_same}
use Rattle.link_words.specs.declared.fields.LinkBits.{LinkBits}
use Rattle.link_words.specs.Fields.{link_rows}
use Rattle.link_words.specs.Links.{link_of, link_read, qtd_link_of, qtd_link_read}
use Rattle.qh_qtd.specs.declared.token.Token.{Token}
use Rattle.qh_qtd.specs.Token.{token_word, token_at}
use Rattle.qh_qtd.specs.declared.queue_head.Qh.{Qh}
use Rattle.qh_qtd.specs.QueueHead.{qh_layout, qh_words, qh_bad, qh_at, qh_read, IsQhInRange}
use Rattle.qh_qtd.proofs.TokenLaws.{token_says, token_same}

qh_says : (ws : List ℕ) → Says qh_layout ws (qh_at ws)
unfolding qh_at
qh_says ws =
    (link_says (slice_index ws 0), ((refl, (refl, (refl, (refl, (refl, (refl, (refl, (refl, (refl, tt))))))))), ((refl, (refl, (refl, (refl, (refl, tt))))), ((refl, tt), (short_link_says (slice_index ws 4), ((refl, (refl, (refl, tt))), (token_says (slice_index ws 6), ((refl, (refl, tt)), ((refl, (refl, tt)), ((refl, (refl, (refl, tt))), ((refl, tt), ((refl, tt), tt))))))))))))

qh_same : (ws : List ℕ) (q : Qh) → Says qh_layout ws q → q ≡ qh_at ws
unfolding qh_at
qh_same ws q (link, ((rl, (control, (max, (head, (dtc, (eps, (ep, (inactivate, (addr, _))))))))), ((mult, (port, (hub, (cmask, (smask, _))))), ((current, _), (next, ((alternate, (nak_cnt, (alternate_t, _))), (token, ((page0, (offset, _)), ((page1, (c_prog, _)), ((page2, (s_bytes, (frame_tag, _))), ((page3, _), ((page4, _), _)))))))))))) = λ i. record {
  link = link_same (slice_index ws 0) q.link link i;
  addr = addr i;
  inactivate = inactivate i;
  ep = ep i;
  eps = eps i;
  dtc = dtc i;
  head = head i;
  max = max i;
  control = control i;
  rl = rl i;
  smask = smask i;
  cmask = cmask i;
  hub = hub i;
  port = port i;
  mult = mult i;
  current = current i;
  next = short_link_same (slice_index ws 4) q.next next i;
  alternate = short_link_same (slice_index ws 5) q.alternate (alternate, (alternate_t, tt)) i;
  nak_cnt = nak_cnt i;
  token = token_same (slice_index ws 6) q.token token i;
  offset = offset i;
  page0 = page0 i;
  c_prog = c_prog i;
  page1 = page1 i;
  frame_tag = frame_tag i;
  s_bytes = s_bytes i;
  page2 = page2 i;
  page3 = page3 i;
  page4 = page4 i;
}

-- a queue head that was written is read
pub qh_read-words : (q : Qh) → IsQhInRange q → qh_read (qh_words q) ≡ Ok q
unfolding qh_read qh_bad qh_words
qh_read-words q fit =
    let said = says-words_of qh_layout (qh_words q) q refl fit refl in
    ap (λ bad. unless_bad bad (qh_at (qh_words q))) said.1 ∙ ap Ok (sym (qh_same (qh_words q) q said.0))

-- what no reserved bit breaks is written as it was
qh_whole : (ws : List ℕ) → length ws ≡ 12 → ((k : ℕ) → slice_index ws k < 2 ^ 32) → qh_bad ws ≡ None → (qh_words (qh_at ws) ≡ ws) × IsQhInRange (qh_at ws)
unfolding qh_bad qh_words
qh_whole ws lengths small free = words_of-says qh_layout ws (qh_at ws) refl lengths small (qh_says ws) free

-- a queue head that was read is written as it was
pub qh_words-read : (ws : List ℕ) (q : Qh) → length ws ≡ 12 → ((k : ℕ) → slice_index ws k < 2 ^ 32) → qh_read ws ≡ Ok q → (qh_words q ≡ ws) × IsQhInRange q
unfolding qh_read
qh_words-read ws q lengths small e =
    let answer = unless_bad-ok (qh_bad ws) (qh_at ws) q e in
    subst (λ x. (qh_words x ≡ ws) × IsQhInRange x) answer.1 (qh_whole ws lengths small answer.0)

-- ---- what an answer says

pub qh_accepts : (ws : List ℕ) (r : Result Qh Bad) → length ws ≡ 12 → ((k : ℕ) → slice_index ws k < 2 ^ 32) → r ≡ qh_read ws → IfOk r (λ q. (qh_words q ≡ ws) × IsQhInRange q)
qh_accepts ws (Ok q) lengths small e = qh_words-read ws q lengths small (sym e)
qh_accepts ws (Err bad) lengths small e = tt

pub qh_reads_back : (ws : List ℕ) (r : Result Qh Bad) → r ≡ qh_read ws → (q : Qh) → IsQhInRange q → qh_words q ≡ ws → r ≡ Ok q
qh_reads_back ws r e q fit same = e ∙ ap qh_read (sym same) ∙ qh_read-words q fit

pub qh_refuses : (ws : List ℕ) (r : Result Qh Bad) → r ≡ qh_read ws → IfErr r (λ bad. qh_bad ws ≡ Some bad)
unfolding qh_read
qh_refuses ws (Ok q) e = tt
qh_refuses ws (Err bad) e = unless_bad-err (qh_bad ws) (qh_at ws) bad (sym e)

-- ---- some words of a queue head

pub qh_words-length : (q : Qh) → length (qh_words q) ≡ 12
unfolding qh_words
qh_words-length q = refl

-- a store of the link's word changes the link alone
pub qh_words-link : (q : Qh) (l : LinkBits) → slice_set (qh_words q) 0 (word_of link_rows l) ≡ qh_words (record q { link = l })
unfolding qh_words
qh_words-link q l = refl

-- a store of the token's word changes the token alone
pub qh_words-token : (q : Qh) (t : Token) → slice_set (qh_words q) 6 (token_word t) ≡ qh_words (record q { token = t })
unfolding qh_words token_word
qh_words-token q t = refl

-- the fields that single words say
pub qh_at-link : (ws : List ℕ) → link_of (qh_at ws).link ≡ link_read (slice_index ws 0)
unfolding qh_at link_read
qh_at-link ws = refl

pub qh_at-next : (ws : List ℕ) → qtd_link_of (qh_at ws).next ≡ qtd_link_read (slice_index ws 4)
unfolding qh_at qtd_link_read
qh_at-next ws = refl

pub qh_at-alternate : (ws : List ℕ) → qtd_link_of (qh_at ws).alternate ≡ qtd_link_read (slice_index ws 5)
unfolding qh_at qtd_link_read
qh_at-alternate ws = refl

pub qh_at-token : (ws : List ℕ) → (qh_at ws).token ≡ token_at (slice_index ws 6)
unfolding qh_at
qh_at-token ws = refl

-- ---- what was read

pub qh_read-is : (ws : List ℕ) (q : Qh) → qh_read ws ≡ Ok q → q ≡ qh_at ws
unfolding qh_read
qh_read-is ws q e = sym (unless_bad-ok (qh_bad ws) (qh_at ws) q e).1

pub qh_read-link : (ws : List ℕ) (q : Qh) → qh_read ws ≡ Ok q → link_of q.link ≡ link_read (slice_index ws 0)
qh_read-link ws q e = ap (λ x. link_of x.link) (qh_read-is ws q e) ∙ qh_at-link ws

pub qh_read-next : (ws : List ℕ) (q : Qh) → qh_read ws ≡ Ok q → qtd_link_of q.next ≡ qtd_link_read (slice_index ws 4)
qh_read-next ws q e = ap (λ x. qtd_link_of x.next) (qh_read-is ws q e) ∙ qh_at-next ws

pub qh_read-alternate : (ws : List ℕ) (q : Qh) → qh_read ws ≡ Ok q → qtd_link_of q.alternate ≡ qtd_link_read (slice_index ws 5)
qh_read-alternate ws q e = ap (λ x. qtd_link_of x.alternate) (qh_read-is ws q e) ∙ qh_at-alternate ws

pub qh_read-token : (ws : List ℕ) (q : Qh) → qh_read ws ≡ Ok q → q.token ≡ token_at (slice_index ws 6)
qh_read-token ws q e = ap (λ x. x.token) (qh_read-is ws q e) ∙ qh_at-token ws

-- for `using`: that what was written is read, and what single words say and change
pub ruleset qh_laws = (qh_read-words, qh_words-length, qh_words-link, qh_words-token, qh_at-link, qh_at-next, qh_at-alternate, qh_at-token)
