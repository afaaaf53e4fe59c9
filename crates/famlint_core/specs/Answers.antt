-- What a request is answered, for what is told of the paths that it names.
use Rattle.std.specs.Prelude.{ℕ, ◌≡◌, ⊤, List, [], ◌∷◌, Option, Some, Result, Ok, Err}
use Rattle.fam_outer.specs.Loading.{Source}
use Rattle.famlint_loads.specs.declared.fault.Done.{Done}
use Rattle.famlint_loads.specs.declared.fault.Fault.{Fault}
use Rattle.famlint_requests.specs.Guides.{guide_text}
use Rattle.famlint_requests.specs.declared.request.guide.Guide as guides
use Rattle.famlint_requests.specs.declared.request.Request.{Request}
use Rattle.famlint_requests.specs.declared.request.Request.TheVariants.{Plain, Variant, Family, Page, Generate, Check, Advice, Features, Guide}
use Rattle.certificate_format.specs.declared.certificates.Certificate.{Certificate}
use Rattle.famlint_loads.specs.CertificateLoads.{IsLoadedForCheck, ReadsCertificate}
use Rattle.famlint_core.specs.Certified.{IsWrittenByCertify}
use Rattle.famlint_loads.specs.ProductLines.{IsLoadedFor, IsProductLine}
use Rattle.famlint_loads.specs.Selected.{AreSelected}
use Rattle.famlint_loads.specs.declared.product_line.ProductLine.{ProductLine}
use Rattle.famlint_loads.specs.declared.selected.Selected.{Selected}
use Rattle.c_parser.specs.Reading.{IsPlainRead}
use Rattle.c_tree.specs.Tree.{Whole}
use Rattle.cpp_conditions.specs.declared.models.Model.{Model}
use Rattle.famlint_programs.specs.ProgramAnswers.{AnswersPlain, AnswersVariant, PromisedPlain, PromisedVariant}
use Rattle.famlint_families.specs.FamilyAnswers.{AnswersFamily, AnswersPage, AnswersGenerate, AnswersAdvice, AnswersFeatures}
use Rattle.famlint_families.specs.FamilyAnswers.{PromisedFamily, PromisedPage, PromisedGenerate, PromisedAdvice}
use Rattle.famlint_checks.specs.Checked.{AnswersCheck, PromisedCheck}
use Rattle.famlint_loads.specs.Contents.{Contents, of_line, of_check}
use Rattle.famlint_loads.specs.Loads.{IsModel, model_source, file_source, certificate_source}

-- the contents of the paths of a request are told, and are these
abbrev pub IsTold : Request → (List ℕ → Option (List ℕ)) → Contents → Type 0
IsTold (Plain file includes analysis) content told = content file ≡ Some told.file
IsTold (Variant model file dialect settings task) content told = (content model ≡ Some told.model) × (content file ≡ Some told.file)
IsTold (Family model file dialect analysis regions task) content told = (content model ≡ Some told.model) × (content file ≡ Some told.file)
IsTold (Page model file dialect analysis regions) content told = (content model ≡ Some told.model) × (content file ≡ Some told.file)
IsTold (Generate number analysis regions) content told = ⊤
IsTold (Check model file certificate dialect) content told =
    (content model ≡ Some told.model) × (content file ≡ Some told.file) × (content certificate ≡ Some told.certificate)
IsTold (Advice model file dialect settings analysis) content told = (content model ≡ Some told.model) × (content file ≡ Some told.file)
IsTold (Features model unknown) content told = content model ≡ Some told.model
IsTold (Guide guide) content told = ⊤

-- what is loaded for a request, in order
abbrev pub sources_of : Request → List Source
sources_of (Plain file includes analysis) = file_source file ∷ []
sources_of (Variant model file dialect settings task) = model_source model ∷ file_source file ∷ []
sources_of (Family model file dialect analysis regions task) = model_source model ∷ file_source file ∷ []
sources_of (Page model file dialect analysis regions) = model_source model ∷ file_source file ∷ []
sources_of (Generate number analysis regions) = []
sources_of (Check model file certificate dialect) = model_source model ∷ file_source file ∷ certificate_source certificate ∷ []
sources_of (Advice model file dialect settings analysis) = model_source model ∷ file_source file ∷ []
sources_of (Features model unknown) = model_source model ∷ []
sources_of (Guide guide) = []

-- the contents of these, in order
abbrev pub contents_of : Request → Contents → List (List ℕ)
contents_of (Plain file includes analysis) told = told.file ∷ []
contents_of (Variant model file dialect settings task) told = of_line told
contents_of (Family model file dialect analysis regions task) told = of_line told
contents_of (Page model file dialect analysis regions) told = of_line told
contents_of (Generate number analysis regions) told = []
contents_of (Check model file certificate dialect) told = of_check told
contents_of (Advice model file dialect settings analysis) told = of_line told
contents_of (Features model unknown) told = told.model ∷ []
contents_of (Guide guide) told = []

-- the request is to check what `certify` writes of its model and its file
abbrev pub AsksOfCertified : Request → Contents → Type 0
AsksOfCertified (Check model file certificate dialect) told = IsWrittenByCertify dialect told.model told.file told.certificate
AsksOfCertified other told = ⊥

-- a text about the program, with status 0, and no fault
abbrev pub AnswersGuide : guides.Guide → Result Done Fault → Type 0
AnswersGuide guide (Ok done) = done ≡ record { text = guide_text guide; status = 0 }
AnswersGuide guide (Err fault) = ⊥

-- a request is answered this where the paths that it names hold this
abbrev pub Answers : Request → Contents → Result Done Fault → Type 0
Answers (Plain file includes analysis) told answer = AnswersPlain includes analysis told.file answer
Answers (Variant model file dialect settings task) told answer = AnswersVariant dialect task settings told answer
Answers (Family model file dialect analysis regions task) told answer = AnswersFamily dialect analysis regions task told answer
Answers (Page model file dialect analysis regions) told answer = AnswersPage dialect analysis regions told answer
Answers (Generate number analysis regions) told answer = AnswersGenerate analysis regions number answer
Answers (Check model file certificate dialect) told answer = AnswersCheck dialect told answer
Answers (Advice model file dialect settings analysis) told answer = AnswersAdvice dialect analysis settings told answer
Answers (Features model unknown) told answer = AnswersFeatures unknown told.model answer
Answers (Guide guide) told answer = AnswersGuide guide answer

-- what a request names is accepted: no fault answers it
abbrev pub IsAccepted : Request → Contents → Type 0
IsAccepted request told = (fault : Fault) → Answers request told (Err fault) → ⊥

-- what the paths of a request hold is read: a program, or a model and a family, with the settings if the command has some; and for a check
-- the bytes of the certificate spell one over them
abbrev pub IsRead : Request → Contents → Type 0
IsRead (Plain file includes analysis) told = (p : Whole) × IsPlainRead includes told.file (Ok p)
IsRead (Variant model file dialect settings task) told = (s : Selected) × AreSelected dialect told.model told.file settings s
IsRead (Family model file dialect analysis regions task) told = (l : ProductLine) × IsProductLine dialect told.model told.file l
IsRead (Page model file dialect analysis regions) told = (l : ProductLine) × IsProductLine dialect told.model told.file l
IsRead (Generate number analysis regions) told = ⊤
IsRead (Check model file certificate dialect) told =
    (l : ProductLine) × IsProductLine dialect told.model told.file l × (c : Certificate) × ReadsCertificate l told.certificate (Ok c)
IsRead (Advice model file dialect settings analysis) told = (s : Selected) × AreSelected dialect told.model told.file settings s
IsRead (Features model unknown) told = (m : Model) × IsModel unknown told.model (Ok m)
IsRead (Guide guide) told = ⊤

-- a path that is loaded for a request
abbrev pub IsLoaded : Request → Contents → Option (List ℕ) → Type 0
IsLoaded (Plain file includes analysis) told failed = failed ≡ Some file
IsLoaded (Variant model file dialect settings task) told failed = IsLoadedFor dialect.unknown model file told.model failed
IsLoaded (Family model file dialect analysis regions task) told failed = IsLoadedFor dialect.unknown model file told.model failed
IsLoaded (Page model file dialect analysis regions) told failed = IsLoadedFor dialect.unknown model file told.model failed
IsLoaded (Generate number analysis regions) told failed = ⊥
IsLoaded (Check model file certificate dialect) told failed = IsLoadedForCheck dialect model file certificate told.model told.file failed
IsLoaded (Advice model file dialect settings analysis) told failed = IsLoadedFor dialect.unknown model file told.model failed
IsLoaded (Features model unknown) told failed = failed ≡ Some model
IsLoaded (Guide guide) told failed = ⊥

-- what is promised of the output to a request; of what a model leaves open no more than its answer
abbrev pub Promised : Request → Contents → ℕ → List ℕ → Type 0
Promised (Plain file includes analysis) told status text = PromisedPlain includes analysis told.file status text
Promised (Variant model file dialect settings task) told status text = PromisedVariant dialect task settings told status text
Promised (Family model file dialect analysis regions task) told status text = PromisedFamily dialect analysis regions task told status text
Promised (Page model file dialect analysis regions) told status text = PromisedPage dialect analysis regions told status text
Promised (Generate number analysis regions) told status text = PromisedGenerate analysis regions number status text
Promised (Check model file certificate dialect) told status text = PromisedCheck dialect told status text
Promised (Advice model file dialect settings analysis) told status text = PromisedAdvice dialect analysis settings told status text
Promised (Features model unknown) told status text = status ≡ 0
Promised (Guide guide) told status text = (status ≡ 0) × (text ≡ guide_text guide)
