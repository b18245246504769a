-- What the words of a qTD tell of its token.
use Rattle.std.proofs.Common.{◌≡◌, ℕ, zero, suc, ◌+◌, ◌*◌, ◌/◌, ◌⊎◌, true, List, [], ◌∷◌, get_or, set, slice_index, ap, refl, sym, subst, ◌∙◌, inl, inr, arith}
use Rattle.usb_base.specs.declared.packets.Dir.{Dir}
use Rattle.word_mem.specs.Memory.{Mem, word_at}
use Rattle.word_mem.specs.Views.{words_at, words_in}
use Rattle.qh_qtd.specs.declared.token.Token.{Token}
use Rattle.qh_qtd.specs.declared.qtd.Qtd.{Qtd}
use Rattle.qh_qtd.specs.Token.{token_at}
use Rattle.qh_qtd.specs.Qtd.{qtd_at, qtd_words, IsQtdInRange}
use Rattle.qh_qtd.proofs.QtdLaws.{qtd_at-token, qtd_read-words, qtd_read-is}
use Rattle.law_structures.specs.lent_structures.Structures.{HoldsElement}
use Rattle.law_microframes.specs.time.DataQueues.{qtd_in, pid_of, SendsData}

third_word : (ws : List ℕ) (a : ℕ) → slice_index (words_in ws a 8) 2 ≡ slice_index ws ((a + 8) / 4)
unfolding words_in
third_word ws a = let e : a + 4 + 4 ≡ a + 8 = omega arith in ap (λ (i : ℕ). slice_index ws (i / 4)) e

token_is : (m : Mem) (b : ℕ) → (qtd_in m b).token ≡ token_at (word_at m (32 * b + 8))
token_is m b = qtd_at-token (words_at m (32 * b) 8) ∙ ap token_at (third_word m.words (32 * b))

-- the words of a qTD are those of it
pub spelled : (t : Qtd) → IsQtdInRange t → qtd_at (qtd_words t) ≡ t
spelled t range = sym (qtd_read-is (qtd_words t) t (qtd_read-words t range))

pub told_qtd : (m : Mem) (b : ℕ) (t : Qtd) → HoldsElement m (32 * b) t → qtd_in m b ≡ t
told_qtd m b t h = ap qtd_at h.words ∙ spelled t h.range

pub of_words : (m : Mem) (b : ℕ) (t : Qtd) → words_at m (32 * b) 8 ≡ qtd_words t → IsQtdInRange t → qtd_in m b ≡ t
of_words m b t words range = ap qtd_at words ∙ spelled t range

sends_by : (dir : Dir) (x y : Token) → y ≡ x → (x.active ≡ true → x.pid ≡ pid_of dir) → y.active ≡ true → y.pid ≡ pid_of dir
sends_by dir x y same sends on = subst (λ (t : Token). t.pid ≡ pid_of dir) (sym same) (sends (ap (λ (t : Token). t.active) (sym same) ∙ on))

pub same_sends : (dir : Dir) (m new : Mem) (b : ℕ) → word_at new (32 * b + 8) ≡ word_at m (32 * b + 8) → SendsData dir (qtd_in m b)
    → SendsData dir (qtd_in new b)
same_sends dir m new b same sends = sends_by dir (qtd_in m b).token (qtd_in new b).token
    (token_is new b ∙ ap token_at same ∙ sym (token_is m b)) sends

-- its token is that of this qTD
pub word_sends : (dir : Dir) (new : Mem) (b : ℕ) (t : Qtd) → IsQtdInRange t → word_at new (32 * b + 8) ≡ slice_index (qtd_words t) 2
    → t.token.pid ≡ pid_of dir
    → SendsData dir (qtd_in new b)
word_sends dir new b t range word low =
    sends_by dir t.token (qtd_in new b).token
    (token_is new b ∙ ap token_at word ∙ sym (qtd_at-token (qtd_words t)) ∙ ap (λ (q : Qtd). q.token) (spelled t range)) (λ on. low)

-- a word that is stored is there, or nothing is
pub set_either : (ws : List ℕ) (i v : ℕ) → (get_or (set ws i v) i 0 ≡ v) ⊎ (get_or (set ws i v) i 0 ≡ get_or ws i 0)
set_either [] i v = inr refl
set_either (w ∷ ws) zero v = inl refl
set_either (w ∷ ws) (suc i) v = set_either ws i v
