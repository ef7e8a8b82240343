use Rattle.std.proofs.Common.{rules, ◌≡◌, ◌∙◌, true, codes, ap, ap₂}
use Rattle.std.proofs.lemmas.Result.{IfOk-weaker}
use Rattle.clap.specs.Words.{App, app_of, new_app, with_subcommand}
use Rattle.clap.specs.Simple.{on_top}
use Rattle.xfs_words.proofs.table.table.Goals as goal

abbrev plain : App → App
plain = on_top (λ s. record s {
  no_binary_name = true;
  disable_help_flag = true;
  disable_help_subcommand = true;
  disable_version_flag = true;
  subcommand_required = true;
})

pub returns : goal.returns
returns c =
    let top : app_of c.subcommand_required.result ≡ plain (new_app (codes "xfs")) =
    rw (c.subcommand_required.ensures, c.disable_version_flag.ensures, c.disable_help_subcommand.ensures, c.disable_help_flag.ensures, c.no_binary_name.ensures) (ap plain c.new.ensures.app) in
    let one = c.in_ok-subcommand.ensures.shape (search rules) ∙ ap₂ with_subcommand top (ap (λ (x : App). x.top) c.new-2.ensures.app) in
    let two = c.in_ok-subcommand-2.ensures.shape (search rules) ∙ ap₂ with_subcommand one (ap (λ (x : App). x.top) c.new-3.ensures.app) in
    let three = c.in_ok-subcommand-3.ensures.shape (search rules) ∙ ap₂ with_subcommand two (ap (λ (x : App). x.top) c.new-4.ensures.app) in
    let four = c.in_ok-subcommand-4.ensures.shape c.in_ok-load.ensures.local ∙ ap₂ with_subcommand three c.in_ok-load.ensures.shape in
    let five = c.in_ok-subcommand-5.ensures.shape c.in_ok-serve.ensures.local ∙ ap₂ with_subcommand four c.in_ok-serve.ensures.shape in
    let six = c.in_ok-subcommand-6.ensures.shape c.in_ok-client.ensures.local ∙ ap₂ with_subcommand five c.in_ok-client.ensures.shape in
    let seven = c.in_ok-subcommand-7.ensures.shape (search rules) ∙ ap₂ with_subcommand six (ap (λ (x : App). x.top) c.new-5.ensures.app) in
    let eight = c.in_ok-subcommand-8.ensures.shape (search rules) ∙ ap₂ with_subcommand seven (ap (λ (x : App). x.top) c.new-6.ensures.app) in
    IfOk-weaker c.subcommand-9.result _ _ (λ command h. h.shape (search rules) ∙ ap₂ with_subcommand eight (ap (λ (x : App). x.top) c.new-7.ensures.app)) c.subcommand-9.ensures
