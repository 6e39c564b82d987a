-- Which methods are in a set, and the text of it (RFC 9110, section 10.2.1).
use Rattle.std.specs.Prelude.{ℕ, Bool, false, List, [], ◌∷◌, ◌++◌, map, filter, flat_map, codes}
use Rattle.side_base.specs.declared.method.Method.{Method}
use Rattle.side_base.specs.declared.method.Method.TheVariants.{Get, Head, Post, Put, Patch, Delete, Options, Other}
use Rattle.api_routes.specs.declared.methods.Methods.{Methods}

-- the flag of a method
abbrev pub has : Methods → Method → Bool
has methods Get = methods.get
has methods Head = methods.head
has methods Post = methods.post
has methods Put = methods.put
has methods Patch = methods.patch
has methods Delete = methods.delete
has methods Options = methods.options
has methods Other = false

-- the methods that a set can have, in alphabetical order
abbrev pub alphabetical : List Method
alphabetical = Delete ∷ Get ∷ Head ∷ Options ∷ Patch ∷ Post ∷ Put ∷ []

-- the name of a method of a set
abbrev pub method_name : Method → List ℕ
method_name Delete = codes "DELETE"
method_name Get = codes "GET"
method_name Head = codes "HEAD"
method_name Options = codes "OPTIONS"
method_name Patch = codes "PATCH"
method_name Post = codes "POST"
method_name Put = codes "PUT"
method_name Other = []

-- names, joined by a comma and a space
abbrev pub joined : List (List ℕ) → List ℕ
joined [] = []
joined (name ∷ names) = name ++ flat_map (λ next. codes ", " ++ next) names

-- the value of a field `Allow`: the names of the methods in the set, in alphabetical order
abbrev pub allow_text : Methods → List ℕ
allow_text methods = joined (map method_name (filter (has methods) alphabetical))
