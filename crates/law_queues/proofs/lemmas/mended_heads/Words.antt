-- The words of a queue head after each of the three stores, and that its fields are in their ranges.
use Rattle.std.proofs.Common.{◌≡◌, ℕ, ◌+◌, ◌*◌, set, refl, ap, arith}
use Rattle.link_words.specs.Links.{no_qtd}
use Rattle.qh_qtd.specs.Blank.{blank_token}
use Rattle.qh_qtd.specs.declared.queue_head.Qh.{Qh}
use Rattle.qh_qtd.specs.QueueHead.{qh_words, IsQhInRange}
use Rattle.drv_table.specs.Words.{to_qtd}

-- the word of a link to a qTD is its address
link_word : (b : ℕ) → 32 * b + (0 + 0) ≡ 32 * b
link_word b = omega arith

pub next_words : (q : Qh) (b : ℕ) → qh_words (record q { next = to_qtd b }) ≡ set (qh_words q) 4 (32 * b)
unfolding qh_words
next_words q b = ap (λ (v : ℕ). set (qh_words q) 4 v) (link_word b)

pub alternate_words : (q : Qh) → qh_words (record q { alternate = no_qtd; nak_cnt = 0 }) ≡ set (qh_words q) 5 1
unfolding qh_words
alternate_words q = refl

pub token_words : (q : Qh) → qh_words (record q { token = blank_token }) ≡ set (qh_words q) 6 0
unfolding qh_words
token_words q = refl

pub next_range : (q : Qh) (b : ℕ) → IsQhInRange q → IsQhInRange (record q { next = to_qtd b })
next_range q b r = (r.0, (r.1.0, (r.1.1.0, (r.1.1.1.0, ((omega arith, tt), r.1.1.1.1.1)))))

pub alternate_range : (q : Qh) → IsQhInRange q → IsQhInRange (record q { alternate = no_qtd; nak_cnt = 0 })
alternate_range q r = (r.0, (r.1.0, (r.1.1.0, (r.1.1.1.0, (r.1.1.1.1.0, ((refl, (omega arith, tt)), r.1.1.1.1.1.1))))))

pub token_range : (q : Qh) → IsQhInRange q → IsQhInRange (record q { token = blank_token })
token_range q r =
    (r.0, (r.1.0, (r.1.1.0, (r.1.1.1.0, (r.1.1.1.1.0, (r.1.1.1.1.1.0, ((omega arith, (omega arith, (omega arith, (omega arith, tt)))), r.1.1.1.1.1.1.1)))))))
