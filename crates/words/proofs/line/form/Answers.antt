use Rattle.std.proofs.Common.{◌≡◌, ◌∙◌, ap, ap₂, codes, false, Some, true}
use Rattle.std.proofs.lemmas.Result.{IfOk-weaker}
use Rattle.clap.specs.Lexer.{usize_max}
use Rattle.clap.specs.Simple.{app_of, app_of_fields, new_app, with_rule}
use Rattle.clap.specs.Walk.{Rule, rule_of}
use Rattle.clap.specs.declared.builder.arg.Arg.{Arg}
use Rattle.clap.specs.declared.builder.command.Command.{Command}
use Rattle.clap.specs.declared.builder.command.Command.TheOpen.{Command-F}
use Rattle.words.specs.Lines.{bare, more_words, one_word}
use Rattle.words.proofs.LineLaws.{some_is}
use Rattle.words.proofs.line.form.Goals as goal

pub returns : goal.returns
returns c =
    let volume_is : rule_of c.required-volume.result ≡ one_word (codes "volume") = ap rule_of c.required-volume.ensures ∙ ap (λ (r : Rule). record r { required = true }) c.new.ensures.rule in
    let job_is : rule_of c.required-job.result ≡ one_word (codes "job") = ap rule_of c.required-job.ensures ∙ ap (λ (r : Rule). record r { required = true }) c.new-2.ensures.rule in
    let range_is : c.num_args-args.result.num_vals ≡ Some (record { start_inclusive = 0; end_inclusive = usize_max }) = some_is _ _ c.num_args-args.ensures.1 in
    let args_is : rule_of c.num_args-args.result ≡ more_words (codes "args") = ap rule_of c.num_args-args.ensures.0 ∙ ap₂ (λ (r : Rule) n. record r { range = n }) c.new-3.ensures.rule range_is in
    let start_is : app_of c.disable_help_flag.result ≡ bare (new_app (codes "dede")) =
    ap app_of_fields c.disable_help_flag.ensures ∙ ap (λ (f : Command-F Command). app_of_fields (record f { disable_help_flag = true })) c.no_binary_name.ensures ∙ ap bare c.new-4.ensures.app in
    let volume_local : c.required-volume.result.global ≡ false = ap (λ (a : Arg). a.global) c.required-volume.ensures ∙ c.new.ensures.optional.1 in
    let job_local : c.required-job.result.global ≡ false = ap (λ (a : Arg). a.global) c.required-job.ensures ∙ c.new-2.ensures.optional.1 in
    let args_local : c.num_args-args.result.global ≡ false = ap (λ (a : Arg). a.global) c.num_args-args.ensures.0 ∙ c.new-3.ensures.optional.1 in
    let two_are = c.in_ok-arg-2.ensures.shape job_local ∙ ap₂ with_rule (c.in_ok-arg.ensures.shape volume_local ∙ ap₂ with_rule start_is volume_is) job_is in
    IfOk-weaker c.arg-3.result _ _ (λ command added. added.shape args_local ∙ ap₂ with_rule two_are args_is) c.arg-3.ensures
