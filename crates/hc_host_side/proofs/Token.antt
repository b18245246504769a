-- A token that is written as a word reads back, and keeps its ranges with another host's side.
use Rattle.std.proofs.Common.{◌≡◌, ◌<◌, ◌≤◌, Option, Some, None, Result, Ok, Err, slice_index, refl, ap, sym, ◌∙◌, arith}
use Rattle.link_words.specs.declared.refusal.Bad.{Bad}
use Rattle.link_words.specs.Layout.{IsWordInRange, unless_bad}
use Rattle.qh_qtd.specs.Blank.{blank_qtd}
use Rattle.qh_qtd.specs.declared.token.Token.{Token}
use Rattle.qh_qtd.specs.declared.qtd.Qtd.{Qtd}
use Rattle.qh_qtd.specs.Token.{token_rows, token_at, token_word}
use Rattle.qh_qtd.specs.Qtd.{qtd_words, qtd_at, qtd_bad, qtd_read, IsQtdInRange}
use Rattle.qh_qtd.proofs.QtdLaws.{qtd_read-words, qtd_at-token}
use Rattle.toggle_error.specs.declared.host.HostSide.{HostSide}
use Rattle.hc_host_side.specs.HostToken.{with_host}

-- a descriptor with this token and nothing else
abbrev alone : Token → Qtd
alone t = record blank_qtd { token = t }

value_of : Qtd → Result Qtd Bad → Qtd
value_of d (Ok p) = p
value_of d (Err e) = d

accepted : (bad : Option Bad) (q p : Qtd) → unless_bad bad q ≡ Ok p → q ≡ p
unfolding value_of
accepted None q p e = ap (value_of q) e
accepted (Some b) q p e = cc

in_range : (t : Token) → IsWordInRange token_rows t → IsQtdInRange (alone t)
in_range t range =
    ((refl, tt), ((refl, tt), (range, ((omega arith, (omega arith, tt)), ((omega arith, tt), ((omega arith, tt), ((omega arith, tt), ((omega arith, tt), tt))))))))

third : (t : Token) → slice_index (qtd_words (alone t)) 2 ≡ token_word t
unfolding qtd_words token_word
third t = refl

pub token_reads_back : (t : Token) → IsWordInRange token_rows t → token_at (token_word t) ≡ t
unfolding qtd_read
token_reads_back t range =
    let q = alone t in
    let same : qtd_at (qtd_words q) ≡ q = accepted (qtd_bad (qtd_words q)) (qtd_at (qtd_words q)) q (qtd_read-words q (in_range t range)) in
    sym (ap token_at (third t)) ∙ sym (qtd_at-token (qtd_words q)) ∙ ap (λ x. x.token) same

pub with_host_in_range : (t : Token) (host : HostSide) → IsWordInRange token_rows t → host.cerr < 4 → host.left ≤ 20480 → IsWordInRange token_rows (with_host t host)
with_host_in_range t host r c l = (l, (r.1.0, (c, r.1.1.1)))
