-- The pieces of a line, put together. Assumes nothing.
use mathlib.Core.List.{List, ◌++◌}
use mathlib.Core.Path.{◌∙◌, ◌≡◌, ap}
use Prim.Native.Nat.{ℕ}
use Rattle.refusals.specs.Told.{Told}
use Rattle.refusals.specs.Replies.{Replies}
use Rattle.refusals.specs.declared.Reply.{Reply}
use Rattle.writing.specs.Texts.{ended}
use Rattle.reply_text.specs.Text.{barred, reply_text, told_text}

-- s is the reply to the answer r, which is a; what is lent is o'
module _ {A : Type 0} (tell : A → Told) {r a : A} {s : Reply} where
  reply_text_lem : Replies (tell r) s → r ≡ a → reply_text s ≡ told_text (tell a)
  reply_text_lem h q = rw (h.number, h.values, h.rule) (ap (λ (x : A). told_text (tell x)) q)

  pub bare_line : Replies (tell r) s → r ≡ a → ended (reply_text s) ≡ ended (told_text (tell a))
  bare_line h q = ap ended (reply_text_lem h q)

  -- behind it stands the text of what is lent
  pub lent-line : {L : Type 0} (text : L → List ℕ) {o o' : L} → Replies (tell r) s → r ≡ a → o' ≡ o → ended (reply_text s ++ text o') ≡ ended (told_text (tell a) ++ text o)
  lent-line {L} text {o} {o'} h q e =
      ap (λ (w : List ℕ). ended (w ++ text o')) (reply_text_lem h q) ∙ ap (λ (l : L). ended (told_text (tell a) ++ text l)) e

  pub barred-line : {o o' : List ℕ} → Replies (tell r) s → r ≡ a → o' ≡ o → ended (reply_text s ++ barred o') ≡ ended (told_text (tell a) ++ barred o)
  barred-line = lent-line barred
