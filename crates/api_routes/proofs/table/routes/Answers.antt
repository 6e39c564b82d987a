use Rattle.std.proofs.Common.{false, true, [], ◌∷◌, ◌++◌, codes, refl}
use Rattle.matchit.proofs.OnLiterals.{matchit_on_literals}
use Rattle.api_routes.specs.Table.{table}
use Rattle.api_routes.proofs.table.routes.Goals as goal

pub returns : goal.returns
unfolding matchit_on_literals table
returns c = (
  record {
    methods = refl;
    path = record {
      scan = record { pattern = codes "/v1.0/state/" ++ 256 ∷ []; text = codes "/v1.0/state/{store}"; names = (13, 18) ∷ []; name_start = 13; catch_all = false; mode = 0 };
      read = refl;
      pattern_is = refl;
    };
    kind = refl;
  },
  (
    record {
      methods = refl;
      path = record {
        scan = record { pattern = codes "/v1.0/state/" ++ 256 ∷ [] ++ codes "/" ++ 256 ∷ []; text = codes "/v1.0/state/{store}/{key}"; names = (13, 18) ∷ (21, 24) ∷ []; name_start = 21; catch_all = false; mode = 0 };
        read = refl;
        pattern_is = refl;
      };
      kind = refl;
    },
    (
      record {
        methods = refl;
        path = record {
          scan = record { pattern = codes "/v1.0/state/" ++ 256 ∷ [] ++ codes "/" ++ 256 ∷ []; text = codes "/v1.0/state/{store}/{key}"; names = (13, 18) ∷ (21, 24) ∷ []; name_start = 21; catch_all = false; mode = 0 };
          read = refl;
          pattern_is = refl;
        };
        kind = refl;
      },
      (
        record {
          methods = refl;
          path = record {
            scan = record { pattern = codes "/v1.0/state/" ++ 256 ∷ [] ++ codes "/bulk"; text = codes "/v1.0/state/{store}/bulk"; names = (13, 18) ∷ []; name_start = 13; catch_all = false; mode = 0 };
            read = refl;
            pattern_is = refl;
          };
          kind = refl;
        },
        (
          record {
            methods = refl;
            path = record {
              scan = record { pattern = codes "/v1.0/state/" ++ 256 ∷ [] ++ codes "/transaction"; text = codes "/v1.0/state/{store}/transaction"; names = (13, 18) ∷ []; name_start = 13; catch_all = false; mode = 0 };
              read = refl;
              pattern_is = refl;
            };
            kind = refl;
          },
          (
            record {
              methods = refl;
              path = record {
                scan = record { pattern = codes "/v1.0/invoke/" ++ 256 ∷ [] ++ codes "/method/" ++ 257 ∷ []; text = codes "/v1.0/invoke/{app}/method/{*rest}"; names = (14, 17) ∷ (28, 32) ∷ []; name_start = 28; catch_all = true; mode = 0 };
                read = refl;
                pattern_is = refl;
              };
              kind = refl;
            },
            (
              record {
                methods = refl;
                path = record {
                  scan = record { pattern = codes "/v1.0/publish/" ++ 256 ∷ [] ++ codes "/" ++ 257 ∷ []; text = codes "/v1.0/publish/{pubsub}/{*topic}"; names = (15, 21) ∷ (25, 30) ∷ []; name_start = 25; catch_all = true; mode = 0 };
                  read = refl;
                  pattern_is = refl;
                };
                kind = refl;
              },
              (
                record {
                  methods = refl;
                  path = record {
                    scan = record { pattern = codes "/v1.0/bindings/" ++ 256 ∷ []; text = codes "/v1.0/bindings/{name}"; names = (16, 20) ∷ []; name_start = 16; catch_all = false; mode = 0 };
                    read = refl;
                    pattern_is = refl;
                  };
                  kind = refl;
                },
                (
                  record {
                    methods = refl;
                    path = record {
                      scan = record { pattern = codes "/v1.0/healthz"; text = codes "/v1.0/healthz"; names = []; name_start = 0; catch_all = false; mode = 0 };
                      read = refl;
                      pattern_is = refl;
                    };
                    kind = refl;
                  },
                  (
                    record {
                      methods = refl;
                      path = record {
                        scan = record { pattern = codes "/v1.0/metadata"; text = codes "/v1.0/metadata"; names = []; name_start = 0; catch_all = false; mode = 0 };
                        read = refl;
                        pattern_is = refl;
                      };
                      kind = refl;
                    },
                    (
                      record {
                        methods = refl;
                        path = record {
                          scan = record { pattern = codes "/v1.0/metadata/" ++ 256 ∷ []; text = codes "/v1.0/metadata/{name}"; names = (16, 20) ∷ []; name_start = 16; catch_all = false; mode = 0 };
                          read = refl;
                          pattern_is = refl;
                        };
                        kind = refl;
                      },
                      (
                        record {
                          methods = refl;
                          path = record {
                            scan = record { pattern = codes "/v1.0/shutdown"; text = codes "/v1.0/shutdown"; names = []; name_start = 0; catch_all = false; mode = 0 };
                            read = refl;
                            pattern_is = refl;
                          };
                          kind = refl;
                        },
                        (
                          record {
                            methods = refl;
                            path = record {
                              scan = record { pattern = codes "/v1.0/actors/" ++ 256 ∷ [] ++ codes "/" ++ 256 ∷ [] ++ codes "/method/" ++ 257 ∷ []; text = codes "/v1.0/actors/{kind}/{id}/method/{*rest}"; names = (14, 18) ∷ (21, 23) ∷ (34, 38) ∷ []; name_start = 34; catch_all = true; mode = 0 };
                              read = refl;
                              pattern_is = refl;
                            };
                            kind = refl;
                          },
                          (
                            record {
                              methods = refl;
                              path = record {
                                scan = record { pattern = codes "/v1.0/actors/" ++ 256 ∷ [] ++ codes "/" ++ 256 ∷ [] ++ codes "/state/" ++ 256 ∷ []; text = codes "/v1.0/actors/{kind}/{id}/state/{key}"; names = (14, 18) ∷ (21, 23) ∷ (32, 35) ∷ []; name_start = 32; catch_all = false; mode = 0 };
                                read = refl;
                                pattern_is = refl;
                              };
                              kind = refl;
                            },
                            (
                              record {
                                methods = refl;
                                path = record {
                                  scan = record { pattern = codes "/v1.0/actors/" ++ 256 ∷ [] ++ codes "/" ++ 256 ∷ [] ++ codes "/state"; text = codes "/v1.0/actors/{kind}/{id}/state"; names = (14, 18) ∷ (21, 23) ∷ []; name_start = 21; catch_all = false; mode = 0 };
                                  read = refl;
                                  pattern_is = refl;
                                };
                                kind = refl;
                              },
                              tt,
                            ),
                          ),
                        ),
                      ),
                    ),
                  ),
                ),
              ),
            ),
          ),
        ),
      ),
    ),
  ),
)
