use Rattle.std.proofs.Common.{◌≡◌, ◌∙◌, map, refl, string_bytes, subst, sym, IfErr}
use Rattle.std.proofs.lemmas.Result.{err_from_is_err_and, IfErr-weaker}
use Rattle.clap.specs.Words.{app_of, kind_of, rows_of, found_of}
use Rattle.clap.specs.declared.error.Error.{Error}
use Rattle.clap.specs.declared.error.kind.ErrorKind.TheVariants.{OutOfMemory}
use Rattle.sp_words.specs.Found.{is_dashes}
use Rattle.sp_words.proofs.Clap.{any_map, parsed_fails, parsed_found, parsed_only, text_found}
use Rattle.sp_words.proofs.found.texts_of.Goals as goal

pub returns-in_err-matches-clause-fails : goal.returns-in_err-matches-clause-fails
returns-in_err-matches-clause-fails c =
    let r = c.from_residual-in_err-matches.result in
    let returned = err_from_is_err_and r c.from_residual-in_err-matches.ensures.1 in
    IfErr-weaker r (λ error. error ≡ returned.0) _
    (λ error same options spelled new plain.
    subst (λ (e : Error). kind_of e ≡ OutOfMemory) (sym (same ∙ returned.2))
    (parsed_fails c.args.many (map string_bytes c.args.words.now) (app_of c.in_ok-command.field-0)
    c.in_err-matches.field-0.0
    c.in_ok-command.ensures c.in_err-matches.ensures.kinds options spelled new plain))
    (subst (λ s. IfErr s (λ error. error ≡ returned.0)) (sym returned.1) refl)

pub returns-clause-found : goal.returns-clause-found
returns-clause-found c =
    let f = found_of c.in_ok-matches.matches in
    let all = parsed_found c.args.many (map string_bytes c.args.words.now) (app_of c.in_ok-command.field-0)
    (rows_of f) _ c.in_ok-command.ensures (any_map is_dashes string_bytes c.args.words.now ∙ c.requires)
    c.in_ok-matches.ensures.kinds c.in_ok-matches.ensures.matches in (
      all.0,
      all.1,
      all.2,
      record {
        workers = c.get_str.ensures ∙ text_found f _ all.0 all.3;
        limit = c.get_str-2.ensures ∙ text_found f _ all.0 all.3;
        generate = c.get_str-3.ensures ∙ text_found f _ all.0 all.3;
      },
    )

pub returns-clause-only : goal.returns-clause-only
returns-clause-only c = λ options spelled new plain.
    let f = found_of c.in_ok-matches.matches in
    let rows = parsed_only c.args.many (map string_bytes c.args.words.now) (app_of c.in_ok-command.field-0)
    (rows_of f) _ c.in_ok-command.ensures c.in_ok-matches.ensures.matches options spelled new plain in
    record {
      workers = c.get_str.ensures ∙ text_found f _ options rows;
      limit = c.get_str-2.ensures ∙ text_found f _ options rows;
      generate = c.get_str-3.ensures ∙ text_found f _ options rows;
    }
