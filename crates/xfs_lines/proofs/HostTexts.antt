-- The answers of `host`, by what its calls answer, and the lines of `show`.
use Rattle.std.proofs.Common.{◌≡◌, inl, inr, ℕ, ◌+◌, ◌<◌, ◌≤◌, true, List, [], ◌∷◌, ◌++◌, length, take, map, get_or, Ok, Err, None, Some, IfOk, OnErr, Vec, Global, refl, sym, ◌∙◌, ap, append_assoc}
use Rattle.std.specs.declared.option.Option.{Option}
use Rattle.std.specs.declared.result.Result.{Result}
use Rattle.std.proofs.lemmas.Bool.{and_parts, leb-true}
use Rattle.std.proofs.lemmas.List.{map-append, take_all, take_more}
use Rattle.xfs_token.specs.Amounts.{is_currency, is_payable}
use Rattle.xfs_token.proofs.AmountBounds.{payable-read_amount}
use Rattle.xfs_host.specs.Ask.{Terms}
use Rattle.xfs_host.specs.Book.{Asked, book_of, listed, reply_after}
use Rattle.xfs_host.specs.Host.{State, IsRefusedAs}
use Rattle.xfs_host.specs.Reply.{IsReply}
use Rattle.xfs_host.specs.declared.account.Account.{Account as Open}
use Rattle.xfs_host.specs.declared.faults.HostFault.{HostFault}
use Rattle.xfs_host.specs.declared.faults.HostFault.TheVariants as asking
use Rattle.xfs_host.specs.declared.reply.Reply.{Reply}
use Rattle.xfs_script.specs.Answered.{lines_text, IsAnswerText}
use Rattle.xfs_script.specs.HostLines.{IsHostLine}
use Rattle.xfs_script.specs.declared.host_line.HostLine.{HostLine}
use Rattle.xfs_script.specs.declared.host_line.HostLine.TheVariants.{Skip, Account, Ask, Show}
use Rattle.xfs_script.proofs.AnswerLaws.{lines_text-append}
use Rattle.xfs_lines.specs.Host.Verbs.{AreHostAnswer, IsAsked, IsOneLine, IsSmall, LeavesOfVerb, TellsLine, WholeOrNone, account_line, reply_text, show_lines, with_call}

-- the balance of a line is at most 999,999,999,999 thousandths
pub small-line : (text : List ℕ) (line : HostLine) → IsHostLine text line → IsSmall line
small-line text Skip is = tt
small-line text Show is = tt
small-line text (Ask tx account nonce currency amount) is = tt
small-line text (Account account currency balance) is =
    let payable : is_payable currency balance.0 ≡ true = rw is.balance_is at (payable-read_amount is.field) in
    leb-true balance.0 999999999999 (and_parts (is_currency currency) _ payable).1

-- ---- what the calls answer

pub ask-ok : (s new : State) (o : Option HostFault) (t : Terms) (reply : Reply) → IsRefusedAs asking.Memory o (Ok reply) → IsReply s.key t (reply_after s.calls t) reply → new ≡ with_call s (Asked t) → IsAsked s o t (reply_text reply) new
ask-ok s new None t reply refused is grown = record { reply = reply; is = is; text = refl; grown = grown }
ask-ok s new (Some f) t reply refused is grown = absurd cc

-- ---- one line

-- all was done, and no memory was left for its line
pub done : {A E : Type 0} (Answer : List ℕ → State → Type 0) (r : Result A E) (text : List ℕ) (s next : State) → Answer text next → OnErr r (WholeOrNone Answer s next)
done Answer (Ok v) text s next answer = tt
done Answer (Err e) text s next answer = inr (text, answer)

one_line : (Answer : List ℕ → State → Type 0) (line : List ℕ) (next : State) → Answer line next → IsOneLine Answer (line ∷ []) next
one_line Answer line next answer = record { line = line; answer = answer; output_is = refl }

module _ {E : Type 0} (r : Result (Vec ℕ Global) E) (s next : State) (verb given : HostLine) (Answer : List ℕ → State → Type 0) (is : given ≡ verb)
    (one : (output : List (List ℕ)) → IsOneLine Answer output next → AreHostAnswer s verb output next) where
  pub tells-verb : IfOk r (λ v. TellsLine Answer v.items next) → IfOk r (λ v. IsAnswerText (AreHostAnswer s given) v.items next)
  tells-verb h = tells r h
    where
      tells : (r : Result (Vec ℕ Global) E) → IfOk r (λ v. TellsLine Answer v.items next) → IfOk r (λ v. IsAnswerText (AreHostAnswer s given) v.items next)
      tells (Ok v) h = rw is (record { output = h.line ∷ []; answer = one _ (one_line Answer h.line next h.answer); text = h.text })
      tells (Err e) h = tt

  pub leaves-verb : OnErr r (WholeOrNone Answer s next) → OnErr r (LeavesOfVerb s given next)
  leaves-verb h = leaves r h
    where
      whole : WholeOrNone Answer s next → LeavesOfVerb s given next
      whole (inl same) = inl same
      whole (inr (line, answer)) = rw is (inr (line ∷ [], one _ (one_line Answer line next answer)))

      leaves : (r : Result (Vec ℕ Global) E) → OnErr r (WholeOrNone Answer s next) → OnErr r (LeavesOfVerb s given next)
      leaves (Ok v) h = tt
      leaves (Err e) h = whole h

-- ---- the lines of `show`

-- the line of an account and its number
abbrev pub line_of : ℕ × Open → List ℕ
line_of e = account_line e.0 (Some e.1)

abbrev found : ℕ × Open → ℕ × Option Open
found e = (e.0, Some e.1)

lines_found : (es : List (ℕ × Open)) → map (λ (e : ℕ × Option Open). account_line e.0 e.1) (map found es) ≡ map line_of es
lines_found [] = refl
lines_found (e ∷ es) = ap (λ ls. line_of e ∷ ls) (lines_found es)

-- the lines of all accounts are those of `show`
pub shown_all : (s : State) (es : List (ℕ × Open)) (n : ℕ) (text : List ℕ) → map found es ≡ listed (book_of s.calls) → length es ≤ n → text ≡ lines_text (map line_of (take n es)) → text ≡ lines_text (show_lines s)
shown_all s es n text are all is =
    is ∙ ap (λ l. lines_text (map line_of l)) (take_all n es all)
    ∙ ap lines_text (sym (lines_found es) ∙ ap (map (λ (e : ℕ × Option Open). account_line e.0 e.1)) are)

take-push : (es : List (ℕ × Open)) (i : ℕ) (e : ℕ × Open) → i < length es → e ≡ get_or es i e → take (i + 1) es ≡ take i es ++ e ∷ []
take-push es i e within at = take_more es i e within ∙ ap (λ y. take i es ++ y ∷ []) (sym at)

one_more : (ls : List (List ℕ)) (line : List ℕ) → lines_text (ls ++ line ∷ []) ≡ lines_text ls ++ line ++ 10 ∷ []
one_more ls line = lines_text-append ls (line ∷ []) ∙ sym (append_assoc (lines_text ls) line (10 ∷ []))

-- one account more
pub shown_more : (es : List (ℕ × Open)) (i : ℕ) (e : ℕ × Open) (text new : List ℕ) → i < length es → e ≡ get_or es i e → text ≡ lines_text (map line_of (take i es)) → new ≡ text ++ line_of e ++ 10 ∷ [] → new ≡ lines_text (map line_of (take (i + 1) es))
shown_more es i e text new within at is more =
    more ∙ ap (λ t. t ++ line_of e ++ 10 ∷ []) is
    ∙ sym (one_more (map line_of (take i es)) (line_of e))
    ∙ ap lines_text (sym (map-append line_of (take i es) (e ∷ [])) ∙ ap (map line_of) (sym (take-push es i e within at)))
