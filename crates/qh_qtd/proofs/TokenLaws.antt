-- What a token's word says.
use Rattle.std.proofs.Common.{◌≡◌, ℕ, refl}
use Rattle.link_words.proofs.Tables.{SaysWord}
use Rattle.qh_qtd.specs.declared.token.Token.{Token}
use Rattle.qh_qtd.specs.Token.{token_rows, token_at}

pub token_says : (w : ℕ) → SaysWord token_rows w (token_at w)
unfolding token_at
token_says w = (refl, (refl, (refl, (refl, (refl, (refl, (refl, (refl, (refl, (refl, (refl, (refl, (refl, (refl, tt))))))))))))))

pub token_same : (w : ℕ) (t : Token) → SaysWord token_rows w t → t ≡ token_at w
unfolding token_at
token_same w t (toggle, (total, (ioc, (c_page, (cerr, (pid, (active, (halted, (buffer_error, (babble, (xact_err, (missed, (split_state, (ping, _)))))))))))))) = λ i. record {
  ping = ping i;
  split_state = split_state i;
  missed = missed i;
  xact_err = xact_err i;
  babble = babble i;
  buffer_error = buffer_error i;
  halted = halted i;
  active = active i;
  pid = pid i;
  cerr = cerr i;
  c_page = c_page i;
  ioc = ioc i;
  total = total i;
  toggle = toggle i;
}
