-- The laws of the words of a split-transaction isochronous transfer descriptor.
use Rattle.std.proofs.Common.{◌≡◌, ℕ, ◌^◌, ◌<◌, List, length, Some, None, Result, Ok, Err, refl, sym, ap, subst, ◌∙◌}
use Rattle.std.specs.Prelude.{slice_index, slice_set, IfOk, IfErr}
use Rattle.link_words.specs.declared.refusal.Bad.{Bad}
use Rattle.link_words.specs.declared.fields.LinkBits.{LinkBits}
use Rattle.link_words.specs.Layout.{word_of, ranges_of, first_bad_bit, unless_bad}
use Rattle.link_words.specs.Fields.{link_rows}
use Rattle.link_words.specs.Links.{link_of, link_read}
use Rattle.link_words.proofs.Tables.{Says, words_of-says, says-words_of, unless_bad-ok, unless_bad-err}
use Rattle.link_words.proofs.LinkLaws.{link_says, link_same, short_link_says, short_link_same}
use Rattle.itd_sitd.specs.declared.sitd.Sitd.{Sitd}
use Rattle.itd_sitd.specs.Sitd.{offset_rows, sitd_layout, sitd_words, sitd_bad, sitd_at, sitd_read, IsSitdInRange}

-- a word with no reserved bit
pub offset_free : (w : ℕ) → first_bad_bit (ranges_of offset_rows) w ≡ None
unfolding first_bad_bit
offset_free w = refl

sitd_says : (ws : List ℕ) → Says sitd_layout ws (sitd_at ws)
unfolding sitd_at
sitd_says ws =
    (link_says (slice_index ws 0), ((refl, (refl, (refl, (refl, (refl, tt))))), ((refl, (refl, tt)), ((refl, (refl, (refl, (refl, (refl, (refl, (refl, (refl, (refl, (refl, (refl, tt))))))))))), ((refl, (refl, tt)), ((refl, (refl, (refl, tt))), (short_link_says (slice_index ws 6), tt)))))))

sitd_same : (ws : List ℕ) (v : Sitd) → Says sitd_layout ws v → v ≡ sitd_at ws
unfolding sitd_at
sitd_same ws v (link, ((dir_in, (port, (hub, (ep, (addr, _))))), ((cmask, (smask, _)), ((ioc, (page_select, (total, (c_prog, (active, (err, (buffer_error, (babble, (xact_err, (missed, (split_state, _))))))))))), ((page0, (offset, _)), ((page1, (tp, (t_count, _))), (back, _))))))) = λ i. record {
  link = link_same (slice_index ws 0) v.link link i;
  addr = addr i;
  ep = ep i;
  hub = hub i;
  port = port i;
  dir_in = dir_in i;
  smask = smask i;
  cmask = cmask i;
  split_state = split_state i;
  missed = missed i;
  xact_err = xact_err i;
  babble = babble i;
  buffer_error = buffer_error i;
  err = err i;
  active = active i;
  c_prog = c_prog i;
  total = total i;
  page_select = page_select i;
  ioc = ioc i;
  offset = offset i;
  page0 = page0 i;
  t_count = t_count i;
  tp = tp i;
  page1 = page1 i;
  back = short_link_same (slice_index ws 6) v.back back i;
}

-- a descriptor that was written is read
pub sitd_read-words : (v : Sitd) → IsSitdInRange v → sitd_read (sitd_words v) ≡ Ok v
unfolding sitd_read sitd_bad sitd_words
sitd_read-words v fit =
    let said = says-words_of sitd_layout (sitd_words v) v refl fit refl in
    ap (λ bad. unless_bad bad (sitd_at (sitd_words v))) said.1 ∙ ap Ok (sym (sitd_same (sitd_words v) v said.0))

-- what no reserved bit breaks is written as it was
sitd_whole : (ws : List ℕ) → length ws ≡ 7 → ((k : ℕ) → slice_index ws k < 2 ^ 32) → sitd_bad ws ≡ None → (sitd_words (sitd_at ws) ≡ ws) × IsSitdInRange (sitd_at ws)
unfolding sitd_bad sitd_words
sitd_whole ws lengths small free = words_of-says sitd_layout ws (sitd_at ws) refl lengths small (sitd_says ws) free

-- a descriptor that was read is written as it was
pub sitd_words-read : (ws : List ℕ) (v : Sitd) → length ws ≡ 7 → ((k : ℕ) → slice_index ws k < 2 ^ 32) → sitd_read ws ≡ Ok v → (sitd_words v ≡ ws) × IsSitdInRange v
unfolding sitd_read
sitd_words-read ws v lengths small e =
    let answer = unless_bad-ok (sitd_bad ws) (sitd_at ws) v e in
    subst (λ x. (sitd_words x ≡ ws) × IsSitdInRange x) answer.1 (sitd_whole ws lengths small answer.0)

-- ---- what an answer says

pub sitd_accepts : (ws : List ℕ) (r : Result Sitd Bad) → length ws ≡ 7 → ((k : ℕ) → slice_index ws k < 2 ^ 32) → r ≡ sitd_read ws → IfOk r (λ v. (sitd_words v ≡ ws) × IsSitdInRange v)
sitd_accepts ws (Ok v) lengths small e = sitd_words-read ws v lengths small (sym e)
sitd_accepts ws (Err bad) lengths small e = tt

pub sitd_reads_back : (ws : List ℕ) (r : Result Sitd Bad) → r ≡ sitd_read ws → (v : Sitd) → IsSitdInRange v → sitd_words v ≡ ws → r ≡ Ok v
sitd_reads_back ws r e v fit same = e ∙ ap sitd_read (sym same) ∙ sitd_read-words v fit

pub sitd_refuses : (ws : List ℕ) (r : Result Sitd Bad) → r ≡ sitd_read ws → IfErr r (λ bad. sitd_bad ws ≡ Some bad)
unfolding sitd_read
sitd_refuses ws (Ok v) e = tt
sitd_refuses ws (Err bad) e = unless_bad-err (sitd_bad ws) (sitd_at ws) bad (sym e)

-- ---- single words of a descriptor

pub sitd_words-length : (v : Sitd) → length (sitd_words v) ≡ 7
unfolding sitd_words
sitd_words-length v = refl

-- a store of the link's word changes the link alone
pub sitd_words-link : (v : Sitd) (l : LinkBits) → slice_set (sitd_words v) 0 (word_of link_rows l) ≡ sitd_words (record v { link = l })
unfolding sitd_words
sitd_words-link v l = refl

-- where the link leads
pub sitd_at-link : (ws : List ℕ) → link_of (sitd_at ws).link ≡ link_read (slice_index ws 0)
unfolding sitd_at link_read
sitd_at-link ws = refl

-- ---- what was read

pub sitd_read-is : (ws : List ℕ) (v : Sitd) → sitd_read ws ≡ Ok v → v ≡ sitd_at ws
unfolding sitd_read
sitd_read-is ws v e = sym (unless_bad-ok (sitd_bad ws) (sitd_at ws) v e).1

pub sitd_read-link : (ws : List ℕ) (v : Sitd) → sitd_read ws ≡ Ok v → link_of v.link ≡ link_read (slice_index ws 0)
sitd_read-link ws v e = ap (λ x. link_of x.link) (sitd_read-is ws v e) ∙ sitd_at-link ws

-- for `using`: that what was written is read, and what single words say and change
pub ruleset sitd_laws = (sitd_read-words, sitd_words-length, sitd_words-link, sitd_at-link)
