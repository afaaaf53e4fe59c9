use Rattle.std.proofs.Common.{◌≡◌, [], ◌∷◌, Err, refl, sym, subst, rules}
use Rattle.std.specs.Prelude.{IsOk}
use Rattle.fam_outer.proofs.Given.{given_of, given_so, given_front, given_then}
use Rattle.famlint_loads.specs.Contents.{Contents}
use Rattle.famlint_loads.specs.Loads.{file_source}
use Rattle.famlint_loads.specs.ProductLines.{ComesOfLine, ReadsProductLineFiles}
use Rattle.famlint_loads.proofs.Loading.{line_no_model, line_no_family, loaded_first, loaded_second}
use Rattle.famlint_loads.proofs.product_line.load_product_line_files.Goals as goal

pub returns-in_err-model-clause-given : goal.returns-in_err-model-clause-given
returns-in_err-model-clause-given g c =
    let dialect = c.args.dialect in
    let s = c.in_err-model.field-0.0 in
    let e : c.from_residual.result ≡ Err s = search rules in
    let failed = g.F.Files.failed c.load_model_file.new.files in
    given_front _ _ _ _ _ (file_source c.args.file_path.now ∷ []) _ (λ (told : Contents). told.file ∷ []) _ _ _ _
    (given_of _ _ _ _ _ _ _ _ (λ (told : Contents). told.model) c.in_err-model.ensures.given) (λ told. refl) (λ ok. absurd (search rules))
    (λ told came. subst (λ r. ComesOfLine (ReadsProductLineFiles dialect told.model told.file) dialect.unknown c.args.model_path.now c.args.file_path.now told.model failed r) (sym e) (record {
      comes = line_no_model dialect told.model told.file s came;
      order = loaded_first dialect.unknown failed c.args.model_path.now c.args.file_path.now told.model s c.in_err-model.ensures.read.path;
    }))

pub returns-in_err-family-clause-given : goal.returns-in_err-family-clause-given
returns-in_err-family-clause-given g c =
    let dialect = c.args.dialect in
    let s = c.in_err-family.field-0.0 in
    let model = c.in_ok-model.field-0.model in
    let e : c.from_residual-in_err-family.result ≡ Err s = search rules in
    let failed = g.F.Files.failed c.load_family.new.files in
    given_then _ _ _ _ _ _ _ _ _ _ _ _ _ _ _
    (given_of _ _ _ _ _ _ _ _ (λ (told : Contents). told.model) c.in_ok-model.ensures.given) refl (λ told. refl) c.load_model_file.ensures.kept
    (given_so _ _ _ _ _ _ _ (IsOk c.from_residual-in_err-family.result) _ _ (given_of _ _ _ _ _ _ _ _ (λ (told : Contents). told.file) c.in_err-family.ensures.given) (λ ok. absurd (search rules)) (λ told came. came))
    (λ told came then. subst (λ r. ComesOfLine (ReadsProductLineFiles dialect told.model told.file) dialect.unknown c.args.model_path.now c.args.file_path.now told.model failed r) (sym e) (record {
      comes = line_no_family dialect told.model told.file model s came.0 then;
      order = loaded_second dialect.unknown failed c.args.model_path.now c.args.file_path.now told.model model s came.0 c.in_err-family.ensures.read.path;
    }))

pub returns-clause-given : goal.returns-clause-given
returns-clause-given g c =
    given_then _ _ _ _ _ _ _ _ _ _ _ _ _ _ _
    (given_of _ _ _ _ _ _ _ _ (λ (told : Contents). told.model) c.in_ok-model.ensures.given) refl (λ told. refl) c.load_model_file.ensures.kept
    (given_of _ _ _ _ _ _ _ _ (λ (told : Contents). told.file) c.in_ok-family.ensures.given)
    (λ told came then. record {
      comes = (
        record {
          dialect_is = refl;
          model = came.0;
          family = then.0;
          text = then.1;
          usable = c.in_ok-family.ensures.usable;
        },
        came.1,
      );
      order = λ h. absurd h;
    })
